use Rattle.hub_tellings.proofs.All.{◌≡◌, ◌<◌, ◌∙◌, false, length, ap, arith, subst, sym, vec_capacity, Tell, tell_of, TellingsState, ChangesRow, IsGapFor, IsRowAt, has_row, gap_has, has_at, row_added, row_there, state}
use Rattle.hub_tellings.proofs.tellings.Tellings.hold.Goals as goal

pub insert_at-requires-clause-room : goal.insert_at-requires-clause-room
insert_at-requires-clause-room c =
    let free = subst (λ (z : TellingsState). has_row z.rows c.args.conn.0 ≡ false → length z.rows < z.room) (sym c.self.view_is) c.requires (gap_has c.self.inside.rows.items c.args.conn.0 c.in-Err.place (subst (λ rows. IsGapFor rows c.args.conn.0 c.in-Err.place) c.deref.ensures.value c.in-Err.ensures.missed)) in
    let same = sym c.deref.ensures.len ∙ ap length c.deref.ensures.value in omega arith

gap : (c : goal.After-insert_at) → IsGapFor c.self.inside.rows.items c.args.conn.0 c.in-Err.place
gap c = subst (λ rows. IsGapFor rows c.args.conn.0 c.in-Err.place) c.deref.ensures.value c.in-Err.ensures.missed

change : (c : goal.After-insert_at) → ChangesRow c.args.conn.0 (tell_of c.self.inside.rows.items c.args.conn.0) (state c.self.inside.rows.items (vec_capacity c.self.inside.rows)) (state c.insert_at.new.rows.items (vec_capacity c.insert_at.new.rows))
change c =
    row_added c.self.inside.rows.items c.insert_at.new.rows.items c.args.conn.0 c.in-Err.place c.new.result (gap c) c.new.ensures.conn c.insert_at.ensures.items
    (λ (z : Tell). z) (vec_capacity c.self.inside.rows) (vec_capacity c.insert_at.new.rows) c.self.invariant c.new.ensures.tell c.insert_at.ensures.room

pub invariant_of-self : goal.invariant_of-self
invariant_of-self c = (change c).rising

pub returns-in-Err-clause-row : goal.returns-in-Err-clause-row
returns-in-Err-clause-row c = rw (← c.self.view_is) (change c)

pub returns-in-Err-clause-has : goal.returns-in-Err-clause-has
returns-in-Err-clause-has c = row_there c.self.inside.rows.items c.insert_at.new.rows.items c.args.conn.0 c.in-Err.place c.new.result (gap c) c.new.ensures.conn c.insert_at.ensures.items

pub returns-in_default-clause-has : goal.returns-in_default-clause-has
returns-in_default-clause-has c = rw (← c.self.view_is) (has_at c.self.inside.rows.items c.args.conn.0 c.in_default.field-0 (subst (λ rows. IsRowAt rows c.args.conn.0 c.in_default.field-0) c.deref.ensures.value c.in_default.ensures.found))
