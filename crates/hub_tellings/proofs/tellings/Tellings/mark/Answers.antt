use Rattle.hub_tellings.proofs.All.{◌∙◌, set, ap, subst, sym, vec_capacity, marked, tell_of, ChangesRow, IsGapFor, IsRowAt, row_changed, row_same, row_stays, state, tell_missed}
use Rattle.hub_tellings.proofs.tellings.Tellings.mark.Goals as goal

at : (c : goal.After-self-1) → IsRowAt c.self.inside.rows.items c.args.conn.0 c.in-Ok.place
at c = subst (λ rows. IsRowAt rows c.args.conn.0 c.in-Ok.place) c.deref.ensures.value c.in-Ok.ensures.found

change : (c : goal.After-self-1) → ChangesRow c.args.conn.0 (marked (tell_of c.self.inside.rows.items c.args.conn.0)) (state c.self.inside.rows.items (vec_capacity c.self.inside.rows)) (state (set c.self.inside.rows.items c.in-Ok.place c.mark.new.self) (vec_capacity c.self.inside.rows))
change c = row_changed c.self.inside.rows.items (vec_capacity c.self.inside.rows) c.args.conn.0 c.in-Ok.place c.index_mut.result.now c.mark.new.self c.self.invariant (at c) c.index_mut.ensures.value c.mark.ensures.conn marked c.mark.ensures.tell

pub invariant_of-self : goal.invariant_of-self
invariant_of-self c = (change c).rising

pub returns-in-Ok-clause-row : goal.returns-in-Ok-clause-row
returns-in-Ok-clause-row c = rw (← c.self.view_is) (change c)

pub returns-in-Ok-clause-has : goal.returns-in-Ok-clause-has
returns-in-Ok-clause-has c = rw (← c.self.view_is) (row_stays c.self.inside.rows.items (vec_capacity c.self.inside.rows) c.args.conn.0 c.in-Ok.place c.index_mut.result.now c.mark.new.self c.self.invariant (at c) c.index_mut.ensures.value c.mark.ensures.conn)

pub returns-in_default-clause-row : goal.returns-in_default-clause-row
returns-in_default-clause-row c =
    let none = tell_missed c.self.inside.rows.items c.args.conn.0 c.in_default.field-0 (subst (λ rows. IsGapFor rows c.args.conn.0 c.in_default.field-0) c.deref.ensures.value c.in_default.ensures.missed) in
    rw (← c.self.view_is) (row_same c.self.inside.rows.items (vec_capacity c.self.inside.rows) c.args.conn.0 (marked (tell_of c.self.inside.rows.items c.args.conn.0)) c.self.invariant (none ∙ sym (ap marked none)))
