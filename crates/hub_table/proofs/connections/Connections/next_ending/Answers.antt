use Rattle.hub_table.proofs.All.{option_map, next_is}
use Rattle.hub_table.proofs.connections.Connections.next_ending.Goals as goal

pub returns : goal.returns
returns c = rw (← c.self.view_is) (next_is c.self.inside.table.all c.args.after.0 (option_map (λ conn. conn.0) c.next_ending.result) c.self.invariant.kept.rising c.next_ending.ensures)
