use Rattle.hub_table.proofs.All.{sym, ap, ◌∙◌, Entry, entry_of, has_entry, can_enter, TableState, connection_of, entered, Becomes, changes_one, there_becomes, entry_is, is_table, gone_is, not_gone, enters_no_head, becomes_entered, entry_enters, due_stays}
use Rattle.hub_table.proofs.connections.Connections.enter.Goals as goal

pub enter-requires-clause-step : goal.enter-requires-clause-step
enter-requires-clause-step c =
    ap (λ (z : Entry). can_enter z.phase c.args.phase) (sym (entry_is c.self.inside.table.all c.args.conn.0)) ∙ ap (λ (z : TableState). can_enter (entry_of z.entries c.args.conn.0).phase c.args.phase) c.self.view_is ∙ c.requires.step

became : (c : goal.After-enter) → Becomes c.self.inside.config c.self.inside.named c.args.conn.0 c.self.inside.table.all c.enter.new.self.all (entered (connection_of c.self.inside.table.all c.args.conn.0) c.args.phase)
became c = becomes_entered c.args.conn.0 c.args.phase c.self.invariant.kept (ap (λ (z : TableState). has_entry z.entries c.args.conn.0) c.self.view_is ∙ c.requires.there)
    (ap (λ (z : Entry). can_enter z.phase c.args.phase) (sym (entry_is c.self.inside.table.all c.args.conn.0)) ∙ ap (λ (z : TableState). can_enter (entry_of z.entries c.args.conn.0).phase c.args.phase) c.self.view_is ∙ c.requires.step)
    (enters_no_head (entry_of c.args.self.now.entries c.args.conn.0).phase c.args.phase c.requires.step)
    (λ h. absurd (c.requires.live (gone_is c.args.phase h)))
    c.enter.ensures.all

pub invariant_of-self : goal.invariant_of-self
invariant_of-self c = record { kept = (became c).kept; room = c.enter.ensures.room ∙ c.self.invariant.room }

pub returns-clause-entry : goal.returns-clause-entry
returns-clause-entry c = rw (← c.self.view_is) (entry_enters (not_gone c.args.phase c.requires.live) (became c))

pub returns-clause-there : goal.returns-clause-there
returns-clause-there c = there_becomes (became c) (not_gone c.args.phase c.requires.live)

pub returns-clause-due : goal.returns-clause-due
returns-clause-due c = rw (← c.self.view_is) (due_stays c.self.invariant.kept (became c))

pub returns-clause-elsewhere : goal.returns-clause-elsewhere
returns-clause-elsewhere c = rw (← c.self.view_is) (changes_one c.self.invariant.kept (became c))

pub returns-clause-fresh : goal.returns-clause-fresh
returns-clause-fresh c = rw (← c.self.view_is) ((is_table c.self.invariant.kept).heads c.args.conn.0)

pub returns-clause-table : goal.returns-clause-table
returns-clause-table c = is_table (became c).kept
