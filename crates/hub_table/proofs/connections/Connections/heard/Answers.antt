use Rattle.hub_table.proofs.All.{◌≡◌, true, sym, ap, ◌∙◌, Entry, entry_of, has_entry, is_gone, TableState, connection_of, entries_of, with_socket, Becomes, changes_one, there_becomes, entry_becomes, entry_is, is_table, there_by_phase, becomes_counted, due_stays, heard_socket}
use Rattle.hub_table.proofs.connections.Connections.heard.Goals as goal

pub heard-requires-clause-there : goal.heard-requires-clause-there
heard-requires-clause-there c = there_by_phase (entries_of c.self.inside.table.all) c.args.conn.0 (ap (λ (z : TableState). is_gone (entry_of z.entries c.args.conn.0).phase) c.self.view_is ∙ c.requires.present)

pub heard-requires-clause-present : goal.heard-requires-clause-present
heard-requires-clause-present c = ap (λ (z : Entry). is_gone z.phase) (sym (entry_is c.self.inside.table.all c.args.conn.0)) ∙ ap (λ (z : TableState). is_gone (entry_of z.entries c.args.conn.0).phase) c.self.view_is ∙ c.requires.present

became : (c : goal.After-heard) → Becomes c.self.inside.config c.self.inside.named c.args.conn.0 c.self.inside.table.all c.heard.new.self.all (with_socket (connection_of c.self.inside.table.all c.args.conn.0) (heard_socket (connection_of c.self.inside.table.all c.args.conn.0).socket))
became c = becomes_counted c.args.conn.0 _ c.self.invariant.kept (there_by_phase (entries_of c.self.inside.table.all) c.args.conn.0 (ap (λ (z : TableState). is_gone (entry_of z.entries c.args.conn.0).phase) c.self.view_is ∙ c.requires.present)) c.heard.ensures.all

pub invariant_of-self : goal.invariant_of-self
invariant_of-self c = record { kept = (became c).kept; room = c.heard.ensures.room ∙ c.self.invariant.room }

pub returns-clause-entry : goal.returns-clause-entry
returns-clause-entry c = rw (← c.self.view_is) (entry_becomes (became c) ∙ ap heard_socket (sym (entry_is c.self.inside.table.all c.args.conn.0)))

pub returns-clause-there : goal.returns-clause-there
returns-clause-there c = there_becomes (became c) (ap (λ (z : Entry). is_gone z.phase) (sym (entry_is c.self.inside.table.all c.args.conn.0)) ∙ ap (λ (z : TableState). is_gone (entry_of z.entries c.args.conn.0).phase) c.self.view_is ∙ c.requires.present)

pub returns-clause-due : goal.returns-clause-due
returns-clause-due c = rw (← c.self.view_is) (due_stays c.self.invariant.kept (became c))

pub returns-clause-elsewhere : goal.returns-clause-elsewhere
returns-clause-elsewhere c = rw (← c.self.view_is) (changes_one c.self.invariant.kept (became c))

pub returns-clause-table : goal.returns-clause-table
returns-clause-table c = is_table (became c).kept
