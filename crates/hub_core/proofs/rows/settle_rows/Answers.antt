use Rattle.hub_core.proofs.RowLemmas.{settling_starts, settling_next, settling_ends}
use Rattle.hub_core.proofs.rows.settle_rows.Goals as goal

pub walk-init : goal.walk-init
walk-init c = record { settles = settling_starts c.args.table.now.entries c.args.tellings.now c.rising.ensures c.requires.first c.requires.held }

pub walk-preserved : goal.walk-preserved
walk-preserved c = record {
  settles = settling_next c.walk.after.0 c.in-Some.conn.0 c.held.result c.args.table.now.entries c.args.tellings.now c.walk.tellings c.settle.new.self c.walk.invariant.settles c.in-Some.ensures c.held.ensures c.settle.ensures.row c.settle.ensures.has;
}

pub returns : goal.returns
returns c = settling_ends c.walk.after.0 c.args.table.now.entries c.args.tellings.now c.walk.tellings c.walk.invariant.settles c.in_default.ensures
