use Rattle.hub_table.proofs.All.{refl, ◌≡◌, [], true, false, Some, None, is_some, sym, ap, ◌∙◌, Phase, Head, Gone, is_open, Entry, PartingValue, entry_of, is_gone, due_of, TableState, Connection, no_connection, connection_of, entries_of, entered, parted, Becomes, changes_one, entry_becomes, due_becomes, due_is, is_table, there_by_phase, becomes_entered, becomes_parted, becomes_forgotten, due_stays, cause_is, due_open, due_else, phase_read, none_due}
use Rattle.hub_table.proofs.connections.Connections.leave.Goals as goal

pub at-requires : goal.at-requires
at-requires c = there_by_phase (entries_of c.self.inside.table.all) c.args.conn.0 (ap (λ (z : TableState). is_gone (entry_of z.entries c.args.conn.0).phase) c.self.view_is ∙ c.requires)

pub part-requires-clause-there : goal.part-requires-clause-there
part-requires-clause-there c = there_by_phase (entries_of c.self.inside.table.all) c.args.conn.0 (ap (λ (z : TableState). is_gone (entry_of z.entries c.args.conn.0).phase) c.self.view_is ∙ c.requires)

pub at-requires-2 : goal.at-requires-2
at-requires-2 c = there_by_phase (entries_of c.self.inside.table.all) c.args.conn.0 (ap (λ (z : TableState). is_gone (entry_of z.entries c.args.conn.0).phase) c.self.view_is ∙ c.requires)

pub enter-requires-clause-there : goal.enter-requires-clause-there
enter-requires-clause-there c = there_by_phase (entries_of c.self.inside.table.all) c.args.conn.0 (ap (λ (z : TableState). is_gone (entry_of z.entries c.args.conn.0).phase) c.self.view_is ∙ c.requires)

pub forget-requires : goal.forget-requires
forget-requires c = there_by_phase (entries_of c.self.inside.table.all) c.args.conn.0 (ap (λ (z : TableState). is_gone (entry_of z.entries c.args.conn.0).phase) c.self.view_is ∙ c.requires)

-- the connection was open
became : (c : goal.After-part) → Becomes c.self.inside.config c.self.inside.named c.args.conn.0 c.self.inside.table.all c.part.new.self.all (parted (connection_of c.self.inside.table.all c.args.conn.0) Gone c.parting_of-parting.result)
became c = becomes_parted c.args.conn.0 Gone c.parting_of-parting.result c.self.invariant.kept (there_by_phase (entries_of c.self.inside.table.all) c.args.conn.0 (ap (λ (z : TableState). is_gone (entry_of z.entries c.args.conn.0).phase) c.self.view_is ∙ c.requires))
    refl
    (λ h. let z : Gone ≡ Head = h in cc)
    (ap (λ (z : PartingValue). z.conn) c.parting_of-parting.ensures)
    c.part.ensures.all

pub invariant_of-self : goal.invariant_of-self
invariant_of-self c = record { kept = (became c).kept; room = c.part.ensures.room ∙ c.self.invariant.room }

pub returns-then-is_open-clause-gone : goal.returns-then-is_open-clause-gone
returns-then-is_open-clause-gone c = ap (λ (z : Entry). is_gone z.phase) (entry_becomes (became c))

pub returns-then-is_open-clause-due : goal.returns-then-is_open-clause-due
returns-then-is_open-clause-due c =
    due_becomes (became c) ∙ ap Some (cause_is c.parting_of-parting.result c.args.conn.0 1006 [] c.parting_of-parting.ensures)
    ∙ due_open (entry_of c.args.self.now.entries c.args.conn.0).phase (due_of c.args.self.now.partings c.args.conn.0) (phase_read (λ (z : Phase). is_open (Some z)) c.self.inside.table.all c.args.self.now.entries c.args.conn.0 true (ap (λ (z : TableState). z.entries) c.self.view_is) (c.if-is_open.ensures ∙ ap (λ (z : Connection). is_open (Some z.socket.phase)) c.at.ensures))

pub returns-then-is_open-clause-elsewhere : goal.returns-then-is_open-clause-elsewhere
returns-then-is_open-clause-elsewhere c = rw (← c.self.view_is) (changes_one c.self.invariant.kept (became c))

pub returns-then-is_open-clause-table : goal.returns-then-is_open-clause-table
returns-then-is_open-clause-table c = is_table (became c).kept

-- its Closed event was due
entered_gone : (c : goal.After-enter) → Becomes c.self.inside.config c.self.inside.named c.args.conn.0 c.self.inside.table.all c.enter.new.self.all (entered (connection_of c.self.inside.table.all c.args.conn.0) Gone)
entered_gone c = becomes_entered c.args.conn.0 Gone c.self.invariant.kept (there_by_phase (entries_of c.self.inside.table.all) c.args.conn.0 (ap (λ (z : TableState). is_gone (entry_of z.entries c.args.conn.0).phase) c.self.view_is ∙ c.requires))
    refl
    (λ h. let z : Gone ≡ Head = h in cc)
    (λ h. ap (λ (z : Connection). is_some z.closed) (sym c.at-2.ensures) ∙ sym c.if-is_due.ensures)
    c.enter.ensures.all

pub invariant_of-self-then-is_due : goal.invariant_of-self-then-is_due
invariant_of-self-then-is_due c = record { kept = (entered_gone c).kept; room = c.enter.ensures.room ∙ c.self.invariant.room }

pub returns-then-is_due-clause-gone : goal.returns-then-is_due-clause-gone
returns-then-is_due-clause-gone c = ap (λ (z : Entry). is_gone z.phase) (entry_becomes (entered_gone c))

pub returns-then-is_due-clause-due : goal.returns-then-is_due-clause-due
returns-then-is_due-clause-due c =
    due_stays c.self.invariant.kept (entered_gone c) ∙ ap (λ (z : TableState). due_of z.partings c.args.conn.0) c.self.view_is
    ∙ due_else (entry_of c.args.self.now.entries c.args.conn.0).phase (due_of c.args.self.now.partings c.args.conn.0) (phase_read (λ (z : Phase). is_open (Some z)) c.self.inside.table.all c.args.self.now.entries c.args.conn.0 false (ap (λ (z : TableState). z.entries) c.self.view_is) (c.if-is_open.ensures ∙ ap (λ (z : Connection). is_open (Some z.socket.phase)) c.at.ensures))

pub returns-then-is_due-clause-elsewhere : goal.returns-then-is_due-clause-elsewhere
returns-then-is_due-clause-elsewhere c = rw (← c.self.view_is) (changes_one c.self.invariant.kept (entered_gone c))

pub returns-then-is_due-clause-table : goal.returns-then-is_due-clause-table
returns-then-is_due-clause-table c = is_table (entered_gone c).kept

-- no Closed event was due
forgotten : (c : goal.After-forget) → Becomes c.self.inside.config c.self.inside.named c.args.conn.0 c.self.inside.table.all c.forget.new.self.all (no_connection)
forgotten c = becomes_forgotten c.args.conn.0 c.self.invariant.kept c.forget.ensures.all

pub invariant_of-self-2 : goal.invariant_of-self-2
invariant_of-self-2 c = record { kept = (forgotten c).kept; room = c.forget.ensures.room ∙ c.self.invariant.room }

pub returns-clause-gone : goal.returns-clause-gone
returns-clause-gone c = ap (λ (z : Entry). is_gone z.phase) (entry_becomes (forgotten c))

pub returns-clause-due : goal.returns-clause-due
returns-clause-due c =
    let none : due_of c.args.self.now.partings c.args.conn.0 ≡ None = sym (ap (λ (z : TableState). due_of z.partings c.args.conn.0) c.self.view_is) ∙ due_is c.self.inside.config c.self.inside.named c.self.inside.table.all c.args.conn.0 c.self.invariant.kept.each c.self.invariant.kept.rising
    ∙ none_due (connection_of c.self.inside.table.all c.args.conn.0).closed (c.if-is_due.ensures ∙ ap (λ (z : Connection). is_some z.closed) c.at-2.ensures) in
    due_becomes (forgotten c) ∙ sym none ∙ due_else (entry_of c.args.self.now.entries c.args.conn.0).phase (due_of c.args.self.now.partings c.args.conn.0) (phase_read (λ (z : Phase). is_open (Some z)) c.self.inside.table.all c.args.self.now.entries c.args.conn.0 false (ap (λ (z : TableState). z.entries) c.self.view_is) (c.if-is_open.ensures ∙ ap (λ (z : Connection). is_open (Some z.socket.phase)) c.at.ensures))

pub returns-clause-elsewhere : goal.returns-clause-elsewhere
returns-clause-elsewhere c = rw (← c.self.view_is) (changes_one c.self.invariant.kept (forgotten c))

pub returns-clause-table : goal.returns-clause-table
returns-clause-table c = is_table (forgotten c).kept
