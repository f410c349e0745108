use Rattle.hub_core.proofs.All.{◌≢◌, [], ap, ◌∙◌, sym, subst, HubState, ring_at, entry_at}
use Rattle.hub_core.proofs.RowLemmas.{hub_passed, holds_past, passes_of}
use Rattle.hub_core.proofs.hub.Hub.offer_ring.Goals as goal

pub returns : goal.returns
returns g c =
    let e = c.writable-kept.ensures in
    rw (← c.self.view_is) (record { passes = passes_of c.self.inside.topics e.passes e.due e.elsewhere e.table c.keep_row.ensures.row; waits = e.waits })

pub invariant_of-self : goal.invariant_of-self
invariant_of-self g c =
    let e = c.writable-kept.ensures in
    hub_passed c.self.invariant c.args.conn.0 c.writable-kept.result c.self.inside.table.config.limit e.table e.elsewhere e.passes.phase
    (holds_past c.self.invariant c.args.conn.0 (subst (λ (z : HubState). ring_at z c.args.conn.0 ≢ []) (sym c.self.view_is) c.requires.some)) e.passes.kept c.keep_row.ensures.row c.keep_row.ensures.has
