use Rattle.hub_tellings.proofs.All.{subst, vec_capacity, nothing_told, ChangesRow, IsGapFor, IsRowAt, gap_has, row_away, row_removed, row_same, state, tell_missed}
use Rattle.hub_tellings.proofs.tellings.Tellings.forget.Goals as goal

at : (c : goal.After-remove) → IsRowAt c.self.inside.rows.items c.args.conn.0 c.in-Ok.place
at c = subst (λ rows. IsRowAt rows c.args.conn.0 c.in-Ok.place) c.deref.ensures.value c.in-Ok.ensures.found

change : (c : goal.After-remove) → ChangesRow c.args.conn.0 nothing_told (state c.self.inside.rows.items (vec_capacity c.self.inside.rows)) (state c.remove.new.self.items (vec_capacity c.remove.new.self))
change c = row_removed c.self.inside.rows.items c.remove.new.self.items c.args.conn.0 c.in-Ok.place c.self.invariant (at c) c.remove.ensures.items (vec_capacity c.self.inside.rows) (vec_capacity c.remove.new.self) c.remove.ensures.capacity

pub invariant_of-self : goal.invariant_of-self
invariant_of-self c = (change c).rising

pub returns-in-Ok-clause-row : goal.returns-in-Ok-clause-row
returns-in-Ok-clause-row c = rw (← c.self.view_is) (change c)

pub returns-in-Ok-clause-has : goal.returns-in-Ok-clause-has
returns-in-Ok-clause-has c = row_away c.self.inside.rows.items c.remove.new.self.items c.args.conn.0 c.in-Ok.place c.self.invariant (at c) c.remove.ensures.items

gap : (c : goal.In_default) → IsGapFor c.self.inside.rows.items c.args.conn.0 c.in_default.field-0
gap c = subst (λ rows. IsGapFor rows c.args.conn.0 c.in_default.field-0) c.deref.ensures.value c.in_default.ensures.missed

pub returns-in_default-clause-row : goal.returns-in_default-clause-row
returns-in_default-clause-row c = rw (← c.self.view_is) (row_same c.self.inside.rows.items (vec_capacity c.self.inside.rows) c.args.conn.0 nothing_told c.self.invariant (tell_missed c.self.inside.rows.items c.args.conn.0 c.in_default.field-0 (gap c)))

pub returns-in_default-clause-has : goal.returns-in_default-clause-has
returns-in_default-clause-has c = rw (← c.self.view_is) (gap_has c.self.inside.rows.items c.args.conn.0 c.in_default.field-0 (gap c))
