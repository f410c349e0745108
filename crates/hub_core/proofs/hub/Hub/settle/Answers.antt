use Rattle.hub_core.proofs.RowLemmas.{no_row_zero, hub_settled, settles}
use Rattle.hub_core.proofs.hub.Hub.settle.Goals as goal

pub settle_rows-requires-clause-first : goal.settle_rows-requires-clause-first
settle_rows-requires-clause-first c = no_row_zero c.self.invariant

pub invariant_of-self : goal.invariant_of-self
invariant_of-self c = hub_settled c.self.invariant c.settle_rows.ensures

pub returns : goal.returns
returns c = rw (← c.self.view_is) (settles c.self.invariant c.settle_rows.ensures)
