use Rattle.hub_table.proofs.All.{Some, ap, ◌∙◌, read_phase, no_phase}
use Rattle.hub_table.proofs.connections.Connections.phase.Goals as goal

pub returns-in-None : goal.returns-in-None
returns-in-None c = rw (← c.self.view_is) (no_phase c.self.inside.table.all c.args.conn.0 c.in-None.ensures)

pub returns-in-Some : goal.returns-in-Some
returns-in-Some c = rw (← c.self.view_is) (ap Some c.phase.ensures ∙ read_phase c.self.inside.table.all c.args.conn.0 c.in-Some.connection.now c.in-Some.ensures)
