-- What holds of a connection by all notes of a run, whatever orders are served.
use Rattle.run_laws.proofs.Below.{◌≡◌, ◌≢◌, ◌+◌, ℕ, List, [], ◌∷◌, ◌++◌, Option, Some, None, is_some, Bool, true, false, cond, nat_eq, ◌&&◌, ◌||◌, refl, sym, ap, ◌∙◌, subst, append-nil, append_assoc, list_any, and-false, or_assoc, Phase, Head, Open, Leaving, Ending, Gone, ConfigValue, NoteValue, EventValue, OrderValue, send, subscribe, unsubscribe, publish, close, is_of, is_event, is_unserved, is_acceptance, window, gather, has_number, accepted_by, is_accepted, Line, World, moved, closing, leaves_open, cause_of, after_own, line_after, noted, noted_all, step, run, world, first_world, answered, event_of, orders_of, is_refused, obey, obeyed, phase, Ordered, is_for, has_number-append, lines_after, noted_line, ordered_other, perform-line, world_plain, act, obey_acts, clash, or_left, or_right, and_true}
use Rattle.run_laws.proofs.Adding.{same_number}
use Rattle.ws_kinds.specs.NoteValue as note
use Rattle.ws_kinds.specs.EventValue as event
use Rattle.run_meaning.specs.Server as run
use Rattle.ws_kinds.proofs.Facts.{or_false}

-- ---- one note

pub moved_some : (p : Option Phase) (n : NoteValue) → is_some (moved p n) ≡ (is_some p || is_acceptance n)
moved_some None (note.accepted c) = refl
moved_some None _ = refl
moved_some (Some Head) (note.opened c route param) = refl
moved_some (Some Head) (note.head c status) = refl
moved_some (Some Head) (note.gone c left) = refl
moved_some (Some Head) _ = refl
moved_some (Some Open) (note.peer_close c code reason) = refl
moved_some (Some Open) (note.failed c code) = refl
moved_some (Some Open) (note.gone c left) = refl
moved_some (Some Open) _ = refl
moved_some (Some Leaving) (note.peer_close c code reason) = refl
moved_some (Some Leaving) (note.failed c code) = refl
moved_some (Some Leaving) (note.gone c left) = refl
moved_some (Some Leaving) _ = refl
moved_some (Some Ending) (note.gone c left) = refl
moved_some (Some Ending) _ = refl
moved_some (Some Gone) (note.gone c left) = refl
moved_some (Some Gone) _ = refl

pub accepted_own : (c : ℕ) (n : NoteValue) → has_number c (accepted_by n) ≡ (is_of c n && is_acceptance n)
accepted_own c (note.accepted d) = ap (λ (z : Bool). z || false) (same_number c d) ∙ sym (or_false (nat_eq d c)) ∙ and_true (nat_eq d c)
accepted_own c n = sym (and-false (is_of c n))

is_none : (p : Option Phase) → is_some p ≡ false → p ≡ None
is_none None e = refl
is_none (Some p) e = clash true e refl

not_none : (p : Option Phase) → is_some p ≡ true → p ≢ None
not_none None e h = clash false refl e
not_none (Some p) e h = let z : Some p ≡ None = h in cc

-- ---- one order

pub obeys_by : (P : Line → Type 0) (c d : ℕ) (o : OrderValue) (l : Line) → P (act o l) → P l → P (obey c d o l)
obeys_by P c d o l x y = subst (λ (z : Line). P z) (sym (obey_acts c d o l)) (one (is_for c d o l.topics))
  where
    one : (b : Bool) → P (cond b (act o l) l)
    one true = x
    one false = y

pub closing_some : (p : Option Phase) → is_some (closing p) ≡ is_some p
closing_some None = refl
closing_some (Some Head) = refl
closing_some (Some Open) = refl
closing_some (Some Leaving) = refl
closing_some (Some Ending) = refl
closing_some (Some Gone) = refl

pub act_some : (o : OrderValue) (l : Line) → is_some (act o l).phase ≡ is_some l.phase
act_some (send to kind body) l = refl
act_some (subscribe topic) l = refl
act_some (unsubscribe topic) l = refl
act_some (publish topic kind body) l = refl
act_some (close code reason) l = closing_some l.phase

none_acts : (o : OrderValue) (l : Line) → l.phase ≡ None → (act o l).phase ≡ None
none_acts (send to kind body) l e = e
none_acts (subscribe topic) l e = e
none_acts (unsubscribe topic) l e = e
none_acts (publish topic kind body) l e = e
none_acts (close code reason) l e = ap closing e

-- an order gives no phase to who has none
pub none_obeys : (from d : ℕ) (o : OrderValue) (l : Line) → l.phase ≡ None → (obey from d o l).phase ≡ None
none_obeys from d o l e = obeys_by (λ (z : Line). z.phase ≡ None) from d o l (none_acts o l e) e

-- who has no phase did not leave Open
abbrev LeftKnown : Line → Type 0
LeftKnown l = l.phase ≡ None → l.left_open ≡ None

act_left : (o : OrderValue) (l : Line) → LeftKnown l → LeftKnown (act o l)
act_left (send to kind body) l x e = x e
act_left (subscribe topic) l x e = x e
act_left (unsubscribe topic) l x e = x e
act_left (publish topic kind body) l x e = x e
act_left (close code reason) l x e =
    let before : l.phase ≡ None = is_none l.phase (sym (closing_some l.phase) ∙ ap is_some e) in
    ap (λ (z : Option Phase). cond (leaves_open z (closing z)) (Some (code, reason)) l.left_open) before ∙ x before

-- ---- more notes, without events and orders

module _ {S : Type 0} (r : run.Server S) where
  pub world_more : (ns ms : List NoteValue) → list_any is_event ms ≡ false → list_any is_unserved ms ≡ false → world r (ns ++ ms) ≡ noted_all r ms (world r ns)
  world_more ns [] e h = ap (λ (z : List NoteValue). world r z) (append-nil ns)
  world_more ns (m ∷ ms) e h =
      ap (λ (z : List NoteValue). world r z) (sym (append_assoc ns (m ∷ []) ms))
      ∙ world_more (ns ++ m ∷ []) ms (or_right (is_event m) (list_any is_event ms) e) (or_right (is_unserved m) (list_any is_unserved ms) h)
      ∙ ap (λ (z : World S). noted_all r ms z) (world_plain r ns m (or_left (is_event m) (list_any is_event ms) e) (or_left (is_unserved m) (list_any is_unserved ms) h))

  pub line_more : (ns ms : List NoteValue) (d : ℕ) → list_any is_event ms ≡ false → list_any is_unserved ms ≡ false → (world r (ns ++ ms)).line d ≡ lines_after r d ms ((world r ns).line d)
  line_more ns ms d e h = ap (λ (z : World S). z.line d) (world_more ns ms e h) ∙ noted_line r d ms (world r ns)

  pub ordered_more : (f : ConfigValue) (ns ms : List NoteValue) → list_any is_event ms ≡ false → list_any is_unserved ms ≡ false → Ordered r f ns → Ordered r f (ns ++ ms)
  ordered_more f ns [] e h g = subst (λ (z : List NoteValue). Ordered r f z) (sym (append-nil ns)) g
  ordered_more f ns (m ∷ ms) e h g =
      subst (λ (z : List NoteValue). Ordered r f z) (append_assoc ns (m ∷ []) ms)
      (ordered_more f (ns ++ m ∷ []) ms (or_right (is_event m) (list_any is_event ms) e) (or_right (is_unserved m) (list_any is_unserved ms) h)
      (ordered_other r f ns m (or_left (is_event m) (list_any is_event ms) e) (or_left (is_unserved m) (list_any is_unserved ms) h) g))

  pub state_more : (ms : List NoteValue) (w : World S) → (noted_all r ms w).state ≡ w.state
  state_more [] w = refl
  state_more (m ∷ ms) w = state_more ms (noted r m w)

-- ---- all notes

module _ {S : Type 0} (r : run.Server S) (d : ℕ) where
  -- what orders keep
  module _ (P : Line → Type 0) (obeys : (from : ℕ) (o : OrderValue) (l : Line) → P l → P (obey from d o l)) where
    pub obeyed_keeps : (u : ℕ → Bool) (from i : ℕ) (os : List OrderValue) (l : Line) → P l → P (obeyed u from d i os l)
    obeyed_keeps u from i [] l x = x
    obeyed_keeps u from i (o ∷ os) l x = obeyed_keeps u from (i + 1) os (cond (u i) l (obey from d o l)) (one (u i))
      where
        one : (b : Bool) → P (cond b l (obey from d o l))
        one true = x
        one false = obeys from o l x

    answered_keeps : (u : ℕ → Bool) (e : EventValue) (w : World S) → P (w.line d) → P ((answered r u e w).line d)
    answered_keeps u e w x =
        subst (λ (z : Line). P z) (sym (perform-line u e.conn d 0 (orders_of r e w) (record w { state = r.after w.state e }))) (obeyed_keeps u e.conn 0 (orders_of r e w) (w.line d) x)

    pub step_keeps : (u : ℕ → ℕ → Bool) (n : NoteValue) (w : World S) → P (line_after r d n (w.line d)) → P ((step r u n w).line d)
    step_keeps u (note.opened c route param) w x = let v = noted r (note.opened c route param) w in answered_keeps (u c) (event_of c event.opened v) v x
    step_keeps u (note.message c kind body) w x = let v = noted r (note.message c kind body) w in answered_keeps (u c) (event_of c (event.message kind body) v) v x
    step_keeps u (note.told c dropped drained) w x = let v = noted r (note.told c dropped drained) w in answered_keeps (u c) (event_of c (event.told dropped drained) v) v x
    step_keeps u (note.closed c code reason) w x = let v = noted r (note.closed c code reason) w in answered_keeps (u c) (event_of c (event.closed code reason) v) v x
    step_keeps u n w x = x

    -- and each note
    pub run_keeps : ((n : NoteValue) (l : Line) → P l → P (line_after r d n l)) → (ns : List NoteValue) (w : World S) → P (w.line d) → P ((run r w ns).line d)
    run_keeps notes [] w x = x
    run_keeps notes (n ∷ ns) w x = run_keeps notes ns (step r (is_refused (window ns)) n w) (step_keeps (is_refused (window ns)) n w (notes n (w.line d) x))

  -- a test that no order changes
  pub step_same : (f : Line → Bool) → ((from : ℕ) (o : OrderValue) (l : Line) → f (obey from d o l) ≡ f l) → (u : ℕ → ℕ → Bool) (n : NoteValue) (w : World S) → f ((step r u n w).line d) ≡ f (line_after r d n (w.line d))
  step_same f same u n w = step_keeps (λ z. f z ≡ f (line_after r d n (w.line d))) (λ from o l e. same from o l ∙ e) u n w refl

  line_some : (n : NoteValue) (l : Line) → is_some (line_after r d n l).phase ≡ (is_some l.phase || has_number d (accepted_by n))
  line_some n l = one (is_of d n) ∙ ap (λ (z : Bool). is_some l.phase || z) (sym (accepted_own d n))
    where
      one : (b : Bool) → is_some (cond b (after_own r n l) l).phase ≡ (is_some l.phase || (b && is_acceptance n))
      one true = moved_some l.phase n
      one false = or_false (is_some l.phase)

  run_some : (ns : List NoteValue) (w : World S) → is_some ((run r w ns).line d).phase ≡ (is_some (w.line d).phase || is_accepted d ns)
  run_some [] w = or_false (is_some (w.line d).phase)
  run_some (n ∷ ns) w =
      let u = is_refused (window ns) in
      let a = is_some (w.line d).phase in
      run_some ns (step r u n w)
      ∙ ap (λ (z : Bool). z || is_accepted d ns) (step_same (λ l. is_some l.phase) (λ from o l. obeys_by (λ z. is_some z.phase ≡ is_some l.phase) from d o l (act_some o l) refl) u n w ∙ line_some n (w.line d))
      ∙ or_assoc a (has_number d (accepted_by n)) (is_accepted d ns) ∙ ap (λ (z : Bool). a || z) (sym (has_number-append d (accepted_by n) (gather accepted_by ns)))

  -- who was accepted has a phase, and nobody else
  pub phase_some : (ns : List NoteValue) → is_some (phase r ns d) ≡ is_accepted d ns
  phase_some ns = run_some ns (first_world r)

  pub accepted_known : (ns : List NoteValue) → is_accepted d ns ≡ true → phase r ns d ≢ None
  accepted_known ns e = not_none (phase r ns d) (phase_some ns ∙ e)

  pub unaccepted_phase : (ns : List NoteValue) → is_accepted d ns ≡ false → phase r ns d ≡ None
  unaccepted_phase ns e = is_none (phase r ns d) (phase_some ns ∙ e)

  line_left : (n : NoteValue) (l : Line) → LeftKnown l → LeftKnown (line_after r d n l)
  line_left n l x = one (is_of d n)
    where
      one : (b : Bool) → LeftKnown (cond b (after_own r n l) l)
      one true e =
          let before : l.phase ≡ None = is_none l.phase (or_left (is_some l.phase) (is_acceptance n) (sym (moved_some l.phase n) ∙ ap is_some e)) in
          ap (λ (z : Option Phase). cond (leaves_open z (moved l.phase n)) (Some (cause_of n)) l.left_open) before ∙ x before
      one false e = x e

  pub unaccepted_left : (ns : List NoteValue) → is_accepted d ns ≡ false → ((world r ns).line d).left_open ≡ None
  unaccepted_left ns e = run_keeps LeftKnown (λ from o l x. obeys_by LeftKnown from d o l (act_left o l x) x) line_left ns (first_world r) (λ h. refl) (unaccepted_phase ns e)
