use Rattle.hub_table.proofs.All.{sym, ◌∙◌, length_entries, is_table}
use Rattle.hub_table.proofs.connections.Connections.count.Goals as goal

pub returns-clause-table : goal.returns-clause-table
returns-clause-table c = rw (← c.self.view_is) (is_table c.self.invariant.kept)

pub returns-clause-value : goal.returns-clause-value
returns-clause-value c = rw (← c.self.view_is) (c.count.ensures ∙ sym (length_entries c.self.inside.table.all))
