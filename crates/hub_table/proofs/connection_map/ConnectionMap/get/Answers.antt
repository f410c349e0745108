use Rattle.hub_table.proofs.All.{sym, ◌∙◌, found_here, found_none}
use Rattle.hub_table.proofs.connection_map.ConnectionMap.get.Goals as goal

pub returns-in-Some : goal.returns-in-Some
returns-in-Some c = rw (← c.self.view_is) (c.get-in-Some.ensures ∙ found_here c.self.invariant c.args.conn.0 (sym c.in-Some.ensures.value))

pub returns-in-None : goal.returns-in-None
returns-in-None c = rw (← c.self.view_is) (found_none c.self.invariant c.args.conn.0 (sym c.in-None.ensures.value))
