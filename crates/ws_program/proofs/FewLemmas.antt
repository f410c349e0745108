-- Each note sends at most one item to a connection, with the orders of its event, and the note of a turn none.
use Rattle.ws_program.proofs.Below.{◌≡◌, ◌<◌, ◌≤◌, ◌+◌, ◌-◌, ◌^◌, ℕ, suc, List, [], ◌∷◌, ◌++◌, Bool, true, false, cond, Option, Some, None, length, nat_eq, refl, sym, ap, ◌∙◌, subst, append-nil, arith, length-append, flat_map, Phase, Open, NoteValue, is_of, window, data_frame, plain, is_refused, EventValue, WhatValue, OrderValue, send, subscribe, unsubscribe, publish, close, option_to_list, Item, Server, Line, World, noted, answered, step, run, first_world, orders_of, event_of, after_own, line_after, appended, obey, obeyed, close_frame, frames_of, act, perform-line, obeys_by, bus_order, bus_said, order_on, bus_server}
use Rattle.ws_kinds.specs.NoteValue as note
use Rattle.ws_kinds.specs.EventValue as event

-- ---- orders

act_more : (o : OrderValue) (l : Line) → length (act o l).items ≤ length l.items + length (frames_of o)
act_more (send to k b) l = let all = length-append l.items (data_frame k b ∷ []) in omega (arith, all)
act_more (subscribe t) l = omega arith
act_more (unsubscribe t) l = omega arith
act_more (publish t k b) l = let all = length-append l.items (data_frame k b ∷ []) in omega (arith, all)
act_more (close code reason) l = let all = length-append l.items (close_frame code reason ∷ []) in omega (arith, all)

obey_more : (c d : ℕ) (o : OrderValue) (l : Line) → length (obey c d o l).items ≤ length l.items + length (frames_of o)
obey_more c d o l = obeys_by (λ (z : Line). length z.items ≤ length l.items + length (frames_of o)) c d o l (act_more o l) (omega arith)

-- orders send no more than their frames to a connection
obeyed_more : (u : ℕ → Bool) (c d i : ℕ) (os : List OrderValue) (l : Line) → length (obeyed u c d i os l).items ≤ length l.items + length (flat_map frames_of os)
obeyed_more u c d i [] l = omega arith
obeyed_more u c d i (o ∷ os) l =
    let one = first (u i) in
    let more = obeyed_more u c d (i + 1) os (cond (u i) l (obey c d o l)) in
    let all = length-append (frames_of o) (flat_map frames_of os) in
    omega (arith, one, more, all)
  where
    first : (b : Bool) → length (cond b l (obey c d o l)).items ≤ length l.items + length (frames_of o)
    first true = omega arith
    first false = obey_more c d o l

-- ---- a handler whose orders send at most one frame, and none to the event of an opening

module _ {S : Type 0} (s : Server S) (one : (now : S) (e : EventValue) → length (flat_map frames_of (s.said now e)) ≤ 1)
    (quiet : (now : S) (e : EventValue) → e.what ≡ event.opened → flat_map frames_of (s.said now e) ≡ []) where
  -- what a note sends by itself
  own_one : (p : Option Phase) (n : NoteValue) → length (appended s p n) ≤ 1
  own_one p (note.head c status) = omega arith
  own_one p (note.opened c route param) = omega arith
  own_one p (note.ping_got c b) = omega arith
  own_one (Some Open) (note.peer_close c code reason) = omega arith
  own_one (Some Open) (note.failed c code) = omega arith
  own_one p (note.pinged c) = omega arith
  own_one p n = omega arith

  noted_more : (d k : ℕ) (n : NoteValue) (l : Line) → length (appended s l.phase n) ≤ k → length (line_after s d n l).items ≤ length l.items + k
  noted_more d k n l few = both (is_of d n)
    where
      both : (b : Bool) → length (cond b (after_own s n l) l).items ≤ length l.items + k
      both true = let all = length-append l.items (appended s l.phase n) in omega (arith, all, few)
      both false = omega arith

  answered_more : (d : ℕ) (u : ℕ → Bool) (e : EventValue) (w : World S) → length ((answered s u e w).line d).items ≤ length (w.line d).items + length (flat_map frames_of (orders_of s e w))
  answered_more d u e w =
      subst (λ (l : Line). length l.items ≤ length (w.line d).items + length (flat_map frames_of (orders_of s e w))) (sym (perform-line u e.conn d 0 (orders_of s e w) (record w { state = s.after w.state e })))
      (obeyed_more u e.conn d 0 (orders_of s e w) (w.line d))

  -- an event whose note sends nothing
  event_more : (d : ℕ) (u : ℕ → Bool) (e : EventValue) (n : NoteValue) (w : World S) → appended s (w.line d).phase n ≡ [] → length ((answered s u e (noted s n w)).line d).items ≤ length (w.line d).items + 1
  event_more d u e n w none =
      let by_note = noted_more d 0 n (w.line d) (omega (arith, ap (λ (xs : List Item). length xs) none)) in
      let by_orders = answered_more d u e (noted s n w) in
      let few = one (s.after (noted s n w).state e) e in
      omega (arith, by_note, by_orders, few)

  opened_more : (d : ℕ) (u : ℕ → Bool) (e : EventValue) (n : NoteValue) (w : World S) → e.what ≡ event.opened → length ((answered s u e (noted s n w)).line d).items ≤ length (w.line d).items + 1
  opened_more d u e n w opens =
      let by_note = noted_more d 1 n (w.line d) (own_one (w.line d).phase n) in
      let by_orders = answered_more d u e (noted s n w) in
      let none = ap (λ (xs : List Item). length xs) (quiet (s.after (noted s n w).state e) e opens) in
      omega (arith, by_note, by_orders, none)

  step_more : (d : ℕ) (u : ℕ → ℕ → Bool) (n : NoteValue) (w : World S) → length ((step s u n w).line d).items ≤ length (w.line d).items + 1
  step_more d u (note.opened c route param) w = let n = note.opened c route param in opened_more d (u c) (event_of c event.opened (noted s n w)) n w refl
  step_more d u (note.message c k b) w = let n = note.message c k b in event_more d (u c) (event_of c (event.message k b) (noted s n w)) n w refl
  step_more d u (note.told c dropped drained) w = let n = note.told c dropped drained in event_more d (u c) (event_of c (event.told dropped drained) (noted s n w)) n w refl
  step_more d u (note.closed c code reason) w = let n = note.closed c code reason in event_more d (u c) (event_of c (event.closed code reason) (noted s n w)) n w refl
  step_more d u n w = noted_more d 1 n (w.line d) (own_one (w.line d).phase n)

  run_more : (d : ℕ) (w : World S) (ns : List NoteValue) → length ((run s w ns).line d).items ≤ length (w.line d).items + length ns
  run_more d w [] = omega arith
  run_more d w (n ∷ ns) =
      let first = step_more d (is_refused (window ns)) n w in
      let rest = run_more d (step s (is_refused (window ns)) n w) ns in
      omega (arith, first, rest)

  run_turn : (d : ℕ) (w : World S) (ns : List NoteValue) → length ((run s w (ns ++ note.turn ∷ [])).line d).items ≤ length (w.line d).items + length ns
  run_turn d w [] = omega arith
  run_turn d w (n ∷ ns) =
      let u = is_refused (window (ns ++ note.turn ∷ [])) in
      let first = step_more d u n w in
      let rest = run_turn d (step s u n w) ns in
      omega (arith, first, rest)

  -- a connection has fewer items than there are notes, where the last note is that of a turn
  few_plain : (ns front behind before : List NoteValue) → ns ≡ before ++ note.turn ∷ [] → length ns < 2 ^ 64 → ns ≡ front ++ behind → (d : ℕ) → length (plain s front d) < 2 ^ 64 - 1
  few_plain ns front [] before last short split d =
      let same : front ≡ before ++ note.turn ∷ [] = sym (append-nil front) ∙ sym split ∙ last in
      let few : length (plain s front d) ≤ length before = subst (λ fs. length (plain s fs d) ≤ length before) (sym same) (from_none (length (plain s (before ++ note.turn ∷ []) d)) (length before) (run_turn d (first_world s) before)) in
      let count : length ns ≡ length before + 1 = ap (λ xs. length xs) last ∙ length-append before (note.turn ∷ []) in
      less (length (plain s front d)) (length before) (length ns) few count short
    where
      from_none : (items notes : ℕ) → items ≤ 0 + notes → items ≤ notes
      from_none items notes few = omega arith

      less : (items b n : ℕ) → items ≤ b → n ≡ b + 1 → n < 2 ^ 64 → items < 2 ^ 64 - 1
      less items b n few count short = omega arith
  few_plain ns front (n ∷ behind) before last short split d =
      let count : length ns ≡ length front + length (n ∷ behind) = ap (λ xs. length xs) split ∙ length-append front (n ∷ behind) in
      less (length (plain s front d)) (length front) (length behind) (length ns) (run_more d (first_world s) front) count short
    where
      less : (items f b n : ℕ) → items ≤ 0 + f → n ≡ f + suc b → n < 2 ^ 64 → items < 2 ^ 64 - 1
      less items f b n few count short = omega arith

-- ---- the built-in handler

order_one : (o : OrderValue) → length (flat_map frames_of (o ∷ [])) ≤ 1
order_one (send to k b) = omega arith
order_one (subscribe t) = omega arith
order_one (unsubscribe t) = omega arith
order_one (publish t k b) = omega arith
order_one (close code reason) = omega arith

said_one : (o : Option OrderValue) → length (flat_map frames_of (option_to_list o)) ≤ 1
said_one None = omega arith
said_one (Some o) = order_one o

-- who opens a room subscribes, which sends nothing
opens_quiet : (route conn : ℕ) (param : List ℕ) → flat_map frames_of (option_to_list (order_on route conn param event.opened)) ≡ []
opens_quiet route conn param = both (nat_eq route 1)
  where
    both : (b : Bool) → flat_map frames_of (option_to_list (cond b (Some (subscribe param)) None)) ≡ []
    both true = refl
    both false = refl

said_quiet : (e : EventValue) → e.what ≡ event.opened → flat_map frames_of (bus_said e) ≡ []
said_quiet e opens = ap (λ (what : WhatValue). flat_map frames_of (option_to_list (order_on e.route e.conn e.param what))) opens ∙ opens_quiet e.route e.conn e.param

pub few_items : (admits : List ℕ → Bool) (replies : ℕ → List ℕ) (ns front behind before : List NoteValue) → ns ≡ before ++ note.turn ∷ [] → length ns < 2 ^ 64 → ns ≡ front ++ behind
    → (d : ℕ) → length (plain (bus_server admits replies) front d) < 2 ^ 64 - 1
few_items admits replies ns front behind before last short split d =
    few_plain (bus_server admits replies) (λ now e. said_one (bus_order e)) (λ now e opens. said_quiet e opens) ns front behind before last short split d
