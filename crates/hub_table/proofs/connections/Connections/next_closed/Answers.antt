use Rattle.hub_table.proofs.All.{◌≡◌, None, rules, refl, sym, ap, ◌∙◌, subst, option_map, is_gone, due_of, TableState, TakesDue, Connection, parting_value, AreKept, table_state, is_table, first_told, first_forgotten, first_due, nothing_due}
use Rattle.hub_table.proofs.connections.Connections.next_closed.Goals as goal

pub at-requires : goal.at-requires
at-requires c = (first_due c.self.inside.table.all c.in_ok-conn.conn.0 c.self.invariant.kept.rising (sym c.in_ok-conn.ensures)).there

pub forget-requires : goal.forget-requires
forget-requires c = (first_due c.self.inside.table.all c.in_ok-conn.conn.0 c.self.invariant.kept.rising (sym c.in_ok-conn.ensures)).there

pub take-requires : goal.take-requires
take-requires c = (first_due c.self.inside.table.all c.in_ok-conn.conn.0 c.self.invariant.kept.rising (sym c.in_ok-conn.ensures)).there

pub returns-in_err-conn-clause-takes : goal.returns-in_err-conn-clause-takes
returns-in_err-conn-clause-takes c =
    let none : c.from_residual.result ≡ None = search rules in
    let same : TakesDue None c.args.self.now c.args.self.now = (refl, λ n. sym (ap (λ (z : TableState). due_of z.partings n) c.self.view_is) ∙ ap (λ z. due_of z n) (nothing_due c.self.inside.table.all (sym c.in_err-conn.ensures))) in
    subst (λ o. TakesDue (option_map parting_value o) c.args.self.now c.args.self.now) (sym none) same

pub returns-in_err-conn-clause-table : goal.returns-in_err-conn-clause-table
returns-in_err-conn-clause-table c = rw (← c.self.view_is) (is_table c.self.invariant.kept)

forgotten : (c : goal.After-forget) → AreKept c.self.inside.config c.self.inside.named c.forget.new.self.all × TakesDue (option_map parting_value c.forget.result) (table_state c.self.inside.config c.self.inside.named c.self.inside.table.all) (table_state c.self.inside.config c.self.inside.named c.forget.new.self.all)
forgotten c = first_forgotten c.self.invariant.kept (first_due c.self.inside.table.all c.in_ok-conn.conn.0 c.self.invariant.kept.rising (sym c.in_ok-conn.ensures)) c.forget.ensures.value (c.if-is_gone.ensures ∙ ap (λ (z : Connection). is_gone z.socket.phase) c.at.ensures) c.forget.ensures.all

pub invariant_of-self : goal.invariant_of-self
invariant_of-self c = record { kept = (forgotten c).0; room = c.forget.ensures.room ∙ c.self.invariant.room }

pub returns-then-is_gone-clause-takes : goal.returns-then-is_gone-clause-takes
returns-then-is_gone-clause-takes c = rw (← c.self.view_is) (forgotten c).1

pub returns-then-is_gone-clause-table : goal.returns-then-is_gone-clause-table
returns-then-is_gone-clause-table c = is_table (forgotten c).0

taken : (c : goal.After-take) → AreKept c.self.inside.config c.self.inside.named c.take.new.self.all × TakesDue (option_map parting_value c.take.result) (table_state c.self.inside.config c.self.inside.named c.self.inside.table.all) (table_state c.self.inside.config c.self.inside.named c.take.new.self.all)
taken c = first_told c.self.invariant.kept (first_due c.self.inside.table.all c.in_ok-conn.conn.0 c.self.invariant.kept.rising (sym c.in_ok-conn.ensures)) c.take.ensures.value (c.if-is_gone.ensures ∙ ap (λ (z : Connection). is_gone z.socket.phase) c.at.ensures) c.take.ensures.all

pub invariant_of-self-2 : goal.invariant_of-self-2
invariant_of-self-2 c = record { kept = (taken c).0; room = c.take.ensures.room ∙ c.self.invariant.room }

pub returns-clause-takes : goal.returns-clause-takes
returns-clause-takes c = rw (← c.self.view_is) (taken c).1

pub returns-clause-table : goal.returns-clause-table
returns-clause-table c = is_table (taken c).0
