use Rattle.hub_table.proofs.All.{Some, None, next_entry}
use Rattle.hub_table.proofs.connection_map.ConnectionMap.next.Goals as goal

pub returns-in-Some : goal.returns-in-Some
returns-in-Some c = rw (← c.self.view_is) (next_entry c.self.invariant c.args.after.0 (Some c.in-Some.number) c.in-Some.ensures)

pub returns-in-None : goal.returns-in-None
returns-in-None c = rw (← c.self.view_is) (next_entry c.self.invariant c.args.after.0 None c.in-None.ensures)
