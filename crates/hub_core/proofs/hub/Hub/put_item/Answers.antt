use Rattle.hub_core.proofs.All.{◌∙◌, ap, HubState, is_present, passes_of, row_room}
use Rattle.hub_core.proofs.hub.Hub.put_item.Goals as goal

pub keep_row-requires : goal.keep_row-requires
keep_row-requires g c = row_room c.self.invariant c.args.conn.0 (ap (λ (z : HubState). is_present z c.args.conn.0) c.self.view_is ∙ c.requires.present)

pub returns : goal.returns
returns g c =
    let e = c.put_frame-kept.ensures in
    rw (← c.self.view_is) (passes_of c.self.inside.topics e.passes e.due e.elsewhere e.table c.keep_row.ensures.row)
