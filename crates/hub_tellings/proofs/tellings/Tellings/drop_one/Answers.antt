use Rattle.hub_tellings.proofs.All.{◌≡◌, ◌<◌, ◌∙◌, false, length, set, ap, arith, subst, sym, vec_capacity, one_dropped, tell_of, TellingsState, ChangesRow, IsGapFor, IsRowAt, has_row, gap_has, has_at, row_added, row_changed, row_stays, row_there, state}
use Rattle.hub_tellings.proofs.tellings.Tellings.drop_one.Goals as goal

at : (c : goal.After-self-1) → IsRowAt c.self.inside.rows.items c.args.conn.0 c.in-Ok.place
at c = subst (λ rows. IsRowAt rows c.args.conn.0 c.in-Ok.place) c.deref.ensures.value c.in-Ok.ensures.found

change : (c : goal.After-self-1) → ChangesRow c.args.conn.0 (one_dropped (tell_of c.self.inside.rows.items c.args.conn.0)) (state c.self.inside.rows.items (vec_capacity c.self.inside.rows)) (state (set c.self.inside.rows.items c.in-Ok.place c.drop_one.new.self) (vec_capacity c.self.inside.rows))
change c = row_changed c.self.inside.rows.items (vec_capacity c.self.inside.rows) c.args.conn.0 c.in-Ok.place c.index_mut.result.now c.drop_one.new.self c.self.invariant (at c) c.index_mut.ensures.value c.drop_one.ensures.conn one_dropped c.drop_one.ensures.tell

pub invariant_of-self : goal.invariant_of-self
invariant_of-self c = (change c).rising

pub returns-in-Ok-clause-row : goal.returns-in-Ok-clause-row
returns-in-Ok-clause-row c = rw (← c.self.view_is) (change c)

pub returns-in-Ok-clause-has : goal.returns-in-Ok-clause-has
returns-in-Ok-clause-has c = row_stays c.self.inside.rows.items (vec_capacity c.self.inside.rows) c.args.conn.0 c.in-Ok.place c.index_mut.result.now c.drop_one.new.self c.self.invariant (at c) c.index_mut.ensures.value c.drop_one.ensures.conn ∙ has_at c.self.inside.rows.items c.args.conn.0 c.in-Ok.place (at c)

pub insert_at-requires-clause-room : goal.insert_at-requires-clause-room
insert_at-requires-clause-room c =
    let free = subst (λ (z : TellingsState). has_row z.rows c.args.conn.0 ≡ false → length z.rows < z.room) (sym c.self.view_is) c.requires (gap_has c.self.inside.rows.items c.args.conn.0 c.in-Err.place (subst (λ rows. IsGapFor rows c.args.conn.0 c.in-Err.place) c.deref.ensures.value c.in-Err.ensures.missed)) in
    let same = sym c.deref.ensures.len ∙ ap length c.deref.ensures.value in omega arith

gap : (c : goal.After-insert_at) → IsGapFor c.self.inside.rows.items c.args.conn.0 c.in-Err.place
gap c = subst (λ rows. IsGapFor rows c.args.conn.0 c.in-Err.place) c.deref.ensures.value c.in-Err.ensures.missed

grown : (c : goal.After-insert_at) → ChangesRow c.args.conn.0 (one_dropped (tell_of c.self.inside.rows.items c.args.conn.0)) (state c.self.inside.rows.items (vec_capacity c.self.inside.rows)) (state c.insert_at.new.rows.items (vec_capacity c.insert_at.new.rows))
grown c =
    row_added c.self.inside.rows.items c.insert_at.new.rows.items c.args.conn.0 c.in-Err.place c.drop_one-in-Err.new.self (gap c) (c.drop_one-in-Err.ensures.conn ∙ c.new-row.ensures.conn) c.insert_at.ensures.items
    one_dropped (vec_capacity c.self.inside.rows) (vec_capacity c.insert_at.new.rows) c.self.invariant (c.drop_one-in-Err.ensures.tell ∙ ap one_dropped c.new-row.ensures.tell) c.insert_at.ensures.room

pub invariant_of-self-in-Err : goal.invariant_of-self-in-Err
invariant_of-self-in-Err c = (grown c).rising

pub returns-in-Err-clause-row : goal.returns-in-Err-clause-row
returns-in-Err-clause-row c = rw (← c.self.view_is) (grown c)

pub returns-in-Err-clause-has : goal.returns-in-Err-clause-has
returns-in-Err-clause-has c = row_there c.self.inside.rows.items c.insert_at.new.rows.items c.args.conn.0 c.in-Err.place c.drop_one-in-Err.new.self (gap c) (c.drop_one-in-Err.ensures.conn ∙ c.new-row.ensures.conn) c.insert_at.ensures.items
