use Rattle.hub_table.proofs.All.{◌≡◌, true, sym, ap, ◌∙◌, Entry, entry_of, has_entry, is_gone, TableState, connection_of, entries_of, with_socket, Becomes, changes_one, there_becomes, entry_becomes, entry_is, is_table, there_by_phase, becomes_counted, due_read, is_end_due, is_ping_due, due_stays, ticked_socket}
use Rattle.hub_table.proofs.connections.Connections.tick.Goals as goal

pub tick-requires-clause-there : goal.tick-requires-clause-there
tick-requires-clause-there c = there_by_phase (entries_of c.self.inside.table.all) c.args.conn.0 (ap (λ (z : TableState). is_gone (entry_of z.entries c.args.conn.0).phase) c.self.view_is ∙ c.requires.present)

pub tick-requires-clause-present : goal.tick-requires-clause-present
tick-requires-clause-present c = ap (λ (z : Entry). is_gone z.phase) (sym (entry_is c.self.inside.table.all c.args.conn.0)) ∙ ap (λ (z : TableState). is_gone (entry_of z.entries c.args.conn.0).phase) c.self.view_is ∙ c.requires.present

became : (c : goal.After-tick) → Becomes c.self.inside.config c.self.inside.named c.args.conn.0 c.self.inside.table.all c.tick.new.self.all (with_socket (connection_of c.self.inside.table.all c.args.conn.0) (ticked_socket (connection_of c.self.inside.table.all c.args.conn.0).socket))
became c = becomes_counted c.args.conn.0 _ c.self.invariant.kept (there_by_phase (entries_of c.self.inside.table.all) c.args.conn.0 (ap (λ (z : TableState). is_gone (entry_of z.entries c.args.conn.0).phase) c.self.view_is ∙ c.requires.present)) c.tick.ensures.all

pub invariant_of-self : goal.invariant_of-self
invariant_of-self c = record { kept = (became c).kept; room = c.tick.ensures.room ∙ c.self.invariant.room }

pub returns-clause-entry : goal.returns-clause-entry
returns-clause-entry c = rw (← c.self.view_is) (entry_becomes (became c) ∙ ap ticked_socket (sym (entry_is c.self.inside.table.all c.args.conn.0)))

pub returns-clause-there : goal.returns-clause-there
returns-clause-there c = there_becomes (became c) (ap (λ (z : Entry). is_gone z.phase) (sym (entry_is c.self.inside.table.all c.args.conn.0)) ∙ ap (λ (z : TableState). is_gone (entry_of z.entries c.args.conn.0).phase) c.self.view_is ∙ c.requires.present)

pub returns-clause-due : goal.returns-clause-due
returns-clause-due c = rw (← c.self.view_is) (due_stays c.self.invariant.kept (became c))

pub returns-clause-elsewhere : goal.returns-clause-elsewhere
returns-clause-elsewhere c = rw (← c.self.view_is) (changes_one c.self.invariant.kept (became c))

pub returns-clause-table : goal.returns-clause-table
returns-clause-table c = is_table (became c).kept

pub returns-clause-ping : goal.returns-clause-ping
returns-clause-ping c = c.tick.ensures.ping ∙ due_read c.args.conn.0 is_ping_due c.self.invariant.kept (there_by_phase (entries_of c.self.inside.table.all) c.args.conn.0 (ap (λ (z : TableState). is_gone (entry_of z.entries c.args.conn.0).phase) c.self.view_is ∙ c.requires.present)) c.self.view_is

pub returns-clause-end : goal.returns-clause-end
returns-clause-end c = c.tick.ensures.end ∙ due_read c.args.conn.0 is_end_due c.self.invariant.kept (there_by_phase (entries_of c.self.inside.table.all) c.args.conn.0 (ap (λ (z : TableState). is_gone (entry_of z.entries c.args.conn.0).phase) c.self.view_is ∙ c.requires.present)) c.self.view_is
