use Rattle.hub_table.proofs.All.{◌≡◌, Some, refl, sym, ap, ◌∙◌, Phase, Entry, PartingValue, entry_of, is_gone, can_enter, TableState, connection_of, entries_of, parted, Becomes, changes_one, there_becomes, due_becomes, entry_is, is_table, there_by_phase, becomes_parted, entry_enters, cause_is, left_open}
use Rattle.hub_table.proofs.connections.Connections.close.Goals as goal

pub part-requires-clause-there : goal.part-requires-clause-there
part-requires-clause-there c = there_by_phase (entries_of c.self.inside.table.all) c.args.conn.0 (ap (λ (z : TableState). is_gone (entry_of z.entries c.args.conn.0).phase) c.self.view_is ∙ ap is_gone c.requires.open)

pub part-requires-clause-step : goal.part-requires-clause-step
part-requires-clause-step c =
    ap (λ (z : Entry). can_enter z.phase c.args.phase) (sym (entry_is c.self.inside.table.all c.args.conn.0)) ∙ ap (λ (z : TableState). can_enter (entry_of z.entries c.args.conn.0).phase c.args.phase) c.self.view_is ∙ ap (λ (z : Phase). can_enter z c.args.phase) c.requires.open ∙ (left_open c.args.phase c.requires.left).0

became : (c : goal.After-part) → Becomes c.self.inside.config c.self.inside.named c.args.conn.0 c.self.inside.table.all c.part.new.self.all (parted (connection_of c.self.inside.table.all c.args.conn.0) c.args.phase c.parting_of-parting.result)
became c = becomes_parted c.args.conn.0 c.args.phase c.parting_of-parting.result c.self.invariant.kept (there_by_phase (entries_of c.self.inside.table.all) c.args.conn.0 (ap (λ (z : TableState). is_gone (entry_of z.entries c.args.conn.0).phase) c.self.view_is ∙ ap is_gone c.requires.open))
    (ap (λ (z : Entry). can_enter z.phase c.args.phase) (sym (entry_is c.self.inside.table.all c.args.conn.0)) ∙ ap (λ (z : TableState). can_enter (entry_of z.entries c.args.conn.0).phase c.args.phase) c.self.view_is ∙ ap (λ (z : Phase). can_enter z c.args.phase) c.requires.open ∙ (left_open c.args.phase c.requires.left).0)
    (left_open c.args.phase c.requires.left).1
    (ap (λ (z : PartingValue). z.conn) c.parting_of-parting.ensures)
    c.part.ensures.all

pub invariant_of-self : goal.invariant_of-self
invariant_of-self c = record { kept = (became c).kept; room = c.part.ensures.room ∙ c.self.invariant.room }

pub returns-clause-entry : goal.returns-clause-entry
returns-clause-entry c = rw (← c.self.view_is) (entry_enters (left_open c.args.phase c.requires.left).2 (became c))

pub returns-clause-there : goal.returns-clause-there
returns-clause-there c = there_becomes (became c) (left_open c.args.phase c.requires.left).2

pub returns-clause-due : goal.returns-clause-due
returns-clause-due c = due_becomes (became c) ∙ ap Some (cause_is c.parting_of-parting.result c.args.conn.0 c.args.code c.args.reason.now c.parting_of-parting.ensures)

pub returns-clause-elsewhere : goal.returns-clause-elsewhere
returns-clause-elsewhere c = rw (← c.self.view_is) (changes_one c.self.invariant.kept (became c))

pub returns-clause-table : goal.returns-clause-table
returns-clause-table c = is_table (became c).kept
