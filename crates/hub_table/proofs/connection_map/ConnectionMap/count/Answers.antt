use Rattle.hub_table.proofs.All.{sym, ◌∙◌, length_listed}
use Rattle.hub_table.proofs.connection_map.ConnectionMap.count.Goals as goal

pub returns : goal.returns
returns c = rw (← c.self.view_is) (c.len.ensures.len ∙ sym (length_listed c.self.inside.connections c.self.inside.keys.entries))
