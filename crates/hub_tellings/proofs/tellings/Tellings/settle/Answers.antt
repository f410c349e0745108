use Rattle.hub_tellings.proofs.All.{◌≡◌, ◌∙◌, set, ap, subst, sym, vec_capacity, Tell, at_turn, nothing_told, tell_in, tell_of, TellingsState, ChangesRow, IsGapFor, IsRowAt, has_row, clash, gap_has, has_at, idle_held, idle_is, read_again, row_changed, row_removed, row_stays, row_then, state, still_at, tell_there}
use Rattle.hub_tellings.proofs.tellings.Tellings.settle.Goals as goal

pub unreachable-requires : goal.unreachable-requires
unreachable-requires c =
    let none = gap_has c.self.inside.rows.items c.args.conn.0 c.in_default.field-0 (subst (λ rows. IsGapFor rows c.args.conn.0 c.in_default.field-0) c.deref.ensures.value c.in_default.ensures.missed) in
    clash (has_row c.self.inside.rows.items c.args.conn.0) none (ap (λ (z : TellingsState). has_row z.rows c.args.conn.0) c.self.view_is ∙ c.requires)

at : (c : goal.After-remove) → IsRowAt c.self.inside.rows.items c.args.conn.0 c.in-Ok.place
at c = subst (λ rows. IsRowAt rows c.args.conn.0 c.in-Ok.place) c.deref.ensures.value c.in-Ok.ensures.found

change : (c : goal.After-remove) → ChangesRow c.args.conn.0 (at_turn c.args.held (tell_of c.self.inside.rows.items c.args.conn.0)) (state c.self.inside.rows.items (vec_capacity c.self.inside.rows)) (state (set c.self.inside.rows.items c.in-Ok.place c.turn.new.self) (vec_capacity c.self.inside.rows))
change c = row_changed c.self.inside.rows.items (vec_capacity c.self.inside.rows) c.args.conn.0 c.in-Ok.place c.index_mut.result.now c.turn.new.self c.self.invariant (at c) c.index_mut.ensures.value c.turn.ensures.conn (at_turn c.args.held) c.turn.ensures.tell

-- what is to be told of it after the turn
told : (c : goal.After-remove) → tell_in c.index.result.now ≡ at_turn c.args.held (tell_of c.self.inside.rows.items c.args.conn.0)
told c = ap tell_in (read_again c.self.inside.rows.items (vec_capacity c.self.inside.rows) c.args.conn.0 c.in-Ok.place c.index_mut.result.now c.turn.new.self c.self.invariant (at c) c.index_mut.ensures.value c.turn.ensures.conn c.index.result.now c.index.ensures)
    ∙ c.turn.ensures.tell ∙ ap (at_turn c.args.held) (sym (tell_there c.self.inside.rows.items c.args.conn.0 c.in-Ok.place c.index_mut.result.now c.self.invariant (at c) c.index_mut.ensures.value))

nothing : (c : goal.After-remove) → nothing_told ≡ at_turn c.args.held (tell_of c.self.inside.rows.items c.args.conn.0)
nothing c = idle_is c.args.held (tell_of c.self.inside.rows.items c.args.conn.0) (tell_in c.index.result.now) (told c) c.if-is_idle.ensures

away : (c : goal.After-remove) → ChangesRow c.args.conn.0 (at_turn c.args.held (tell_of c.self.inside.rows.items c.args.conn.0)) (state c.self.inside.rows.items (vec_capacity c.self.inside.rows)) (state c.remove.new.self.items (vec_capacity c.remove.new.self))
away c = row_then c.args.conn.0 (at_turn c.args.held (tell_of c.self.inside.rows.items c.args.conn.0)) nothing_told (at_turn c.args.held (tell_of c.self.inside.rows.items c.args.conn.0))
    (state c.self.inside.rows.items (vec_capacity c.self.inside.rows)) (state (set c.self.inside.rows.items c.in-Ok.place c.turn.new.self) (vec_capacity c.self.inside.rows)) (state c.remove.new.self.items (vec_capacity c.remove.new.self))
    (change c)
    (row_removed (set c.self.inside.rows.items c.in-Ok.place c.turn.new.self) c.remove.new.self.items c.args.conn.0 c.in-Ok.place (change c).rising (still_at c.self.inside.rows.items (vec_capacity c.self.inside.rows) c.args.conn.0 c.in-Ok.place c.index_mut.result.now c.turn.new.self c.self.invariant (at c) c.index_mut.ensures.value c.turn.ensures.conn) c.remove.ensures.items
    (vec_capacity c.self.inside.rows) (vec_capacity c.remove.new.self) c.remove.ensures.capacity)
    (nothing c)

pub invariant_of-self : goal.invariant_of-self
invariant_of-self c = (away c).rising

pub returns-then-is_idle-clause-row : goal.returns-then-is_idle-clause-row
returns-then-is_idle-clause-row c = rw (← c.self.view_is) (away c)

pub returns-then-is_idle-clause-has : goal.returns-then-is_idle-clause-has
returns-then-is_idle-clause-has c = λ held. absurd (idle_held c.args.held (ap (λ (z : Tell). z.full) (nothing c)) held)

at-else : (c : goal.Else-is_idle) → IsRowAt c.self.inside.rows.items c.args.conn.0 c.in-Ok.place
at-else c = subst (λ rows. IsRowAt rows c.args.conn.0 c.in-Ok.place) c.deref.ensures.value c.in-Ok.ensures.found

change-else : (c : goal.Else-is_idle) → ChangesRow c.args.conn.0 (at_turn c.args.held (tell_of c.self.inside.rows.items c.args.conn.0)) (state c.self.inside.rows.items (vec_capacity c.self.inside.rows)) (state (set c.self.inside.rows.items c.in-Ok.place c.turn.new.self) (vec_capacity c.self.inside.rows))
change-else c = row_changed c.self.inside.rows.items (vec_capacity c.self.inside.rows) c.args.conn.0 c.in-Ok.place c.index_mut.result.now c.turn.new.self c.self.invariant (at-else c) c.index_mut.ensures.value c.turn.ensures.conn (at_turn c.args.held) c.turn.ensures.tell

pub invariant_of-self-else-is_idle : goal.invariant_of-self-else-is_idle
invariant_of-self-else-is_idle c = (change-else c).rising

pub returns-else-is_idle-clause-row : goal.returns-else-is_idle-clause-row
returns-else-is_idle-clause-row c = rw (← c.self.view_is) (change-else c)

pub returns-else-is_idle-clause-has : goal.returns-else-is_idle-clause-has
returns-else-is_idle-clause-has c = λ held. row_stays c.self.inside.rows.items (vec_capacity c.self.inside.rows) c.args.conn.0 c.in-Ok.place c.index_mut.result.now c.turn.new.self c.self.invariant (at-else c) c.index_mut.ensures.value c.turn.ensures.conn ∙ has_at c.self.inside.rows.items c.args.conn.0 c.in-Ok.place (at-else c)
