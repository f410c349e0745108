use Rattle.hub_table.proofs.All.{◌∙◌, read_held, none_held}
use Rattle.hub_table.proofs.connections.Connections.held.Goals as goal

pub returns-in-None : goal.returns-in-None
returns-in-None c = rw (← c.self.view_is) (none_held c.self.inside.table.all c.args.conn.0 c.in-None.ensures)

pub returns-in-Some : goal.returns-in-Some
returns-in-Some c = rw (← c.self.view_is) (c.ring_length.ensures ∙ read_held c.self.inside.table.all c.args.conn.0 c.in-Some.connection.now c.in-Some.ensures)
