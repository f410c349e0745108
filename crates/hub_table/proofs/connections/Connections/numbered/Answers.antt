use Rattle.hub_table.proofs.All.{◌∙◌, read_count, none_count}
use Rattle.hub_table.proofs.connections.Connections.numbered.Goals as goal

pub returns-in-None : goal.returns-in-None
returns-in-None c = rw (← c.self.view_is) (none_count c.self.inside.table.all c.args.conn.0 c.in-None.ensures)

pub returns-in-Some : goal.returns-in-Some
returns-in-Some c = rw (← c.self.view_is) (c.numbered.ensures ∙ read_count c.self.inside.table.all c.args.conn.0 c.in-Some.connection.now c.in-Some.ensures)
