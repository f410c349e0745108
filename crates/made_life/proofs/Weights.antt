-- How many octets the items of a connection are, where each is the reply to a head of 129 octets or a message of 16: by their number.
use Rattle.std.proofs.Common.{◌≡◌, ℕ, suc, ◌+◌, ◌*◌, Bool, true, false, cond, not, ◌||◌, nat_eq, List, [], ◌∷◌, ◌++◌, length, refl, sym, ap, ◌∙◌, subst, arith, append-nil}
use Rattle.std.specs.List.{list_all, list_any}
use Rattle.std.proofs.lemmas.Bool.Decides.{nat_tests}
use Rattle.std.proofs.lemmas.Grind.{flat_map-append}
use Rattle.std.proofs.lemmas.List.{length-append}
use Rattle.ws_kinds.proofs.Facts.{and_left, and_right, clash, equal_is}
use Rattle.ws_kinds.specs.declared.kind.Kind.{Kind}
use Rattle.ws_kinds.specs.EventValue as event
use Rattle.ws_kinds.specs.EventValue.{EventValue, WhatValue}
use Rattle.ws_kinds.specs.NoteValue as note
use Rattle.ws_kinds.specs.NoteValue.{NoteValue}
use Rattle.ws_kinds.specs.OrderValue.{OrderValue, send, subscribe, unsubscribe, publish, close}
use Rattle.wire_meaning.specs.declared.frame.Opcode.TheVariants.{Begins}
use Rattle.wire_meaning.specs.Frame.{first_octet, frame, header_with}
use Rattle.wire_meaning.specs.Answer.{Item, all_spelled, reply, spelled}
use Rattle.run_meaning.specs.Counts.{number_of}
use Rattle.run_meaning.specs.Lines.{Line, World, after_own, answered, appended, data_frame, event_of, first_world, is_refused, line_after, noted, obey, obeyed, orders_of, plain, route_after, run, step}
use Rattle.run_meaning.specs.Notes.{is_of, window}
use Rattle.run_meaning.specs.Replies.{is_opened}
use Rattle.run_meaning.specs.Server.{Server}
use Rattle.run_meaning.proofs.StepLemmas as steps
use Rattle.run_meaning.proofs.Underway.{perform-line}
use Rattle.run_laws.proofs.WorldLemmas.{obeys_by}

-- a body of 16 octets, and an order that sends nothing else and closes nobody
abbrev pub is_short_body : List ℕ → Bool
is_short_body body = nat_eq (length body) 16

abbrev pub is_short_order : OrderValue → Bool
is_short_order (send to kind body) = is_short_body body
is_short_order (subscribe topic) = true
is_short_order (unsubscribe topic) = true
is_short_order (publish topic kind body) = is_short_body body
is_short_order (close code reason) = false

-- an event that is no message, or a message of 16 octets
abbrev pub is_short_event : WhatValue → Bool
is_short_event (event.message kind body) = is_short_body body
is_short_event _ = true

-- a note that sends nothing but the reply to a head that is not on this route, and is no message but of 16 octets
abbrev pub is_short_note : ℕ → NoteValue → Bool
is_short_note route (note.opened conn other param) = not (nat_eq other route)
is_short_note route (note.message conn kind body) = is_short_body body
is_short_note route (note.head conn status) = false
is_short_note route (note.ping_got conn body) = false
is_short_note route (note.pinged conn) = false
is_short_note route (note.peer_close conn code reason) = false
is_short_note route (note.failed conn code) = false
is_short_note route _ = true

-- so many of the items are replies, and the line has another route
record Weighs (route replies : ℕ) (l : Line) : Type 0 where
  pub octets : length (all_spelled l.items) + 18 * replies ≡ 129 * replies + 18 * length l.items
  pub elsewhere : nat_eq l.route route ≡ false

spelled_then : (xs ys : List Item) → length (all_spelled (xs ++ ys)) ≡ length (all_spelled xs) + length (all_spelled ys)
spelled_then xs ys = ap (λ (l : List ℕ). length l) (flat_map-append spelled xs ys) ∙ length-append (all_spelled xs) (all_spelled ys)

frame_size : (kind : Kind) (body : List ℕ) → is_short_body body ≡ true → length (all_spelled (data_frame kind body ∷ [])) ≡ 18
frame_size kind body short =
    let sixteen : length body ≡ 16 = grind (arith, nat_tests) in
    let head : length (header_with (first_octet true (Begins kind)) 0 (length body)) ≡ 2 = rw sixteen refl in
    ap (λ (l : List ℕ). length l) (append-nil (frame true (Begins kind) body)) ∙ omega (arith, length-append (header_with (first_octet true (Begins kind)) 0 (length body)) body, head, sixteen)

-- ---- one step

more_weighs : (x n r y m k : ℕ) → x + 18 * r ≡ 129 * r + 18 * n → y + 18 * k ≡ 129 * k + 18 * m → (x + y) + 18 * (r + k) ≡ 129 * (r + k) + 18 * (n + m)
more_weighs x n r y m k one other = omega (arith, one, other)

module _ {S : Type 0} (r : Server S) (route : ℕ) (gently : (state : S) (e : EventValue) → nat_eq e.route route ≡ false → is_short_event e.what ≡ true → list_all is_short_order (r.said state e) ≡ true) where
  -- further items, of which so many are replies
  put_weighs : (k more : ℕ) (l : Line) (xs : List Item) → Weighs route k l → length (all_spelled xs) + 18 * more ≡ 129 * more + 18 * length xs
      → length (all_spelled (l.items ++ xs)) + 18 * (k + more) ≡ 129 * (k + more) + 18 * length (l.items ++ xs)
  put_weighs k more l xs w x =
      let both = more_weighs (length (all_spelled l.items)) (length l.items) k (length (all_spelled xs)) (length xs) more w.octets x in
      omega (arith, both, spelled_then l.items xs, length-append l.items xs)

  frame_weighs : (k : ℕ) (l : Line) (kind : Kind) (body : List ℕ) → is_short_body body ≡ true → Weighs route k l
      → length (all_spelled (l.items ++ data_frame kind body ∷ [])) + 18 * k ≡ 129 * k + 18 * length (l.items ++ data_frame kind body ∷ [])
  frame_weighs k l kind body short w =
      omega (arith, w.octets, spelled_then l.items (data_frame kind body ∷ []), length-append l.items (data_frame kind body ∷ []), frame_size kind body short)

  act_weighs : (k : ℕ) (o : OrderValue) (l : Line) → is_short_order o ≡ true → Weighs route k l → Weighs route k (steps.act o l)
  act_weighs k (send to kind body) l short w = record { octets = frame_weighs k l kind body short w; elsewhere = w.elsewhere }
  act_weighs k (subscribe topic) l short w = record { octets = w.octets; elsewhere = w.elsewhere }
  act_weighs k (unsubscribe topic) l short w = record { octets = w.octets; elsewhere = w.elsewhere }
  act_weighs k (publish topic kind body) l short w = record { octets = frame_weighs k l kind body short w; elsewhere = w.elsewhere }
  act_weighs k (close code reason) l short w = clash false refl short

  obeyed_weighs : (u : ℕ → Bool) (from c i k : ℕ) (os : List OrderValue) (l : Line) → list_all is_short_order os ≡ true → Weighs route k l → Weighs route k (obeyed u from c i os l)
  obeyed_weighs u from c i k [] l short w = w
  obeyed_weighs u from c i k (o ∷ os) l short w =
      obeyed_weighs u from c (i + 1) k os (cond (u i) l (obey from c o l)) (and_right (is_short_order o) (list_all is_short_order os) short) (one (u i))
    where
      one : (b : Bool) → Weighs route k (cond b l (obey from c o l))
      one true = w
      one false = obeys_by (Weighs route k) from c o l (act_weighs k o l (and_left (is_short_order o) (list_all is_short_order os) short) w) w

  -- one more reply where the note opens the connection
  abbrev opens : ℕ → NoteValue → ℕ
  opens c n = cond (is_opened c n) 1 0

  by_not : (b : Bool) → not b ≡ true → b ≡ false
  by_not true e = clash false refl e
  by_not false e = refl

  -- a note by which nothing is sent, and no route given
  still_weighs : (c k : ℕ) (n : NoteValue) (l : Line) → appended r l.phase n ≡ [] → route_after n l.route ≡ l.route → is_opened c n ≡ false → Weighs route k l → Weighs route (k + opens c n) (line_after r c n l)
  still_weighs c k n l none same unopened w = subst (λ (m : ℕ). Weighs route m (line_after r c n l)) (sym (ap (λ b. k + cond b 1 0) unopened ∙ plus_none k)) (one (is_of c n))
    where
      plus_none : (m : ℕ) → m + 0 ≡ m
      plus_none m = omega arith

      all : l.items ++ appended r l.phase n ≡ l.items
      all = ap (λ (xs : List Item). l.items ++ xs) none ∙ append-nil l.items

      one : (b : Bool) → Weighs route k (cond b (after_own r n l) l)
      one true = record { octets = subst (λ (xs : List Item). length (all_spelled xs) + 18 * k ≡ 129 * k + 18 * length xs) (sym all) w.octets; elsewhere = subst (λ (m : ℕ). nat_eq m route ≡ false) (sym same) w.elsewhere }
      one false = w

  line_weighs : (c k : ℕ) (n : NoteValue) (l : Line) → is_short_note route n ≡ true → (is_opened c n ≡ true → length (r.reply c) ≡ 129) → Weighs route k l → Weighs route (k + opens c n) (line_after r c n l)
  line_weighs c k (note.opened d other param) l short long w = one (nat_eq d c) refl
    where
      n : NoteValue
      n = note.opened d other param

      one : (b : Bool) → nat_eq d c ≡ b → Weighs route (k + cond b 1 0) (cond b (after_own r (note.opened d other param) l) l)
      one true here =
          let size : length (r.reply d) ≡ 129 = ap (λ m. length (r.reply m)) (equal_is d c here) ∙ long here in
          let text : length (all_spelled (reply (r.reply d) ∷ [])) ≡ 129 = ap (λ (l : List ℕ). length l) (append-nil (r.reply d)) ∙ size in
          record { octets = put_weighs k 1 l (reply (r.reply d) ∷ []) w (omega (arith, text)); elsewhere = by_not (nat_eq other route) short }
      one false there = subst (λ (m : ℕ). Weighs route m l) (sym (plus_none k)) w
        where
          plus_none : (m : ℕ) → m + 0 ≡ m
          plus_none m = omega arith
  line_weighs c k (note.head d status) l short long w = clash false refl short
  line_weighs c k (note.ping_got d body) l short long w = clash false refl short
  line_weighs c k (note.pinged d) l short long w = clash false refl short
  line_weighs c k (note.peer_close d code reason) l short long w = clash false refl short
  line_weighs c k (note.failed d code) l short long w = clash false refl short
  line_weighs c k (note.message d kind body) l short long w = still_weighs c k (note.message d kind body) l refl refl refl w
  line_weighs c k n l short long w = still_weighs c k n l refl refl refl w

  answered_weighs : (u : ℕ → Bool) (c : ℕ) (what : WhatValue) (w : World S) (k : ℕ → ℕ) → is_short_event what ≡ true → ((d : ℕ) → Weighs route (k d) (w.line d)) → (d : ℕ) → Weighs route (k d) ((answered r u (event_of c what w) w).line d)
  answered_weighs u c what w k short all d =
      let e = event_of c what w in
      subst (λ (z : Line). Weighs route (k d) z) (sym (perform-line u c d 0 (orders_of r e w) (record w { state = r.after w.state e })))
      (obeyed_weighs u c d 0 (k d) (orders_of r e w) (w.line d) (gently (r.after w.state e) e (all c).elsewhere short) (all d))

  abbrev pub Replied : List NoteValue → Type 0
  Replied ns = (c : ℕ) → list_any (is_opened c) ns ≡ true → length (r.reply c) ≡ 129

  step_weighs : (u : ℕ → ℕ → Bool) (n : NoteValue) (w : World S) (k : ℕ → ℕ) → is_short_note route n ≡ true → ((c : ℕ) → is_opened c n ≡ true → length (r.reply c) ≡ 129) → ((d : ℕ) → Weighs route (k d) (w.line d))
      → (d : ℕ) → Weighs route (k d + opens d n) ((step r u n w).line d)
  step_weighs u (note.opened c other param) w k short long all d = let n = note.opened c other param in answered_weighs (u c) c event.opened (noted r n w) (λ m. k m + opens m n) refl (λ m. line_weighs m (k m) n (w.line m) short (long m) (all m)) d
  step_weighs u (note.message c kind body) w k short long all d = let n = note.message c kind body in answered_weighs (u c) c (event.message kind body) (noted r n w) (λ m. k m + opens m n) short (λ m. line_weighs m (k m) n (w.line m) short (long m) (all m)) d
  step_weighs u (note.told c dropped drained) w k short long all d = let n = note.told c dropped drained in answered_weighs (u c) c (event.told dropped drained) (noted r n w) (λ m. k m + opens m n) refl (λ m. line_weighs m (k m) n (w.line m) short (long m) (all m)) d
  step_weighs u (note.closed c code reason) w k short long all d = let n = note.closed c code reason in answered_weighs (u c) c (event.closed code reason) (noted r n w) (λ m. k m + opens m n) refl (λ m. line_weighs m (k m) n (w.line m) short (long m) (all m)) d
  step_weighs u n w k short long all d = line_weighs d (k d) n (w.line d) short (long d) (all d)

  run_weighs : (ns : List NoteValue) (w : World S) (k : ℕ → ℕ) → list_all (is_short_note route) ns ≡ true → Replied ns → ((d : ℕ) → Weighs route (k d) (w.line d)) → (d : ℕ) → Weighs route (k d + number_of (is_opened d) ns) ((run r w ns).line d)
  run_weighs [] w k short long all d = subst (λ (m : ℕ). Weighs route m (w.line d)) (plus_none (k d)) (all d)
    where
      plus_none : (m : ℕ) → m ≡ m + 0
      plus_none m = omega arith
  run_weighs (n ∷ ns) w k short long all d =
      let u = is_refused (window ns) in
      subst (λ (m : ℕ). Weighs route m ((run r (step r u n w) ns).line d)) (sum (is_opened d n) (k d) (number_of (is_opened d) ns))
      (run_weighs ns (step r u n w) (λ m. k m + opens m n) (and_right (is_short_note route n) (list_all (is_short_note route) ns) short)
      (λ c later. long c (or_later (is_opened c n) (list_any (is_opened c) ns) later))
      (step_weighs u n w k (and_left (is_short_note route n) (list_all (is_short_note route) ns) short) (λ c here. long c (ap (λ b. b || list_any (is_opened c) ns) here)) all) d)
    where
      sum : (b : Bool) (x y : ℕ) → (x + cond b 1 0) + y ≡ x + cond b (suc y) y
      sum true x y = omega arith
      sum false x y = omega arith

      or_later : (a b : Bool) → b ≡ true → (a || b) ≡ true
      or_later true b later = refl
      or_later false b later = later

  -- the octets of a connection's items, by how often it was opened
  pub items_weigh : (ns : List NoteValue) (c : ℕ) → nat_eq 0 route ≡ false → list_all (is_short_note route) ns ≡ true → Replied ns
      → length (all_spelled (plain r ns c)) + 18 * number_of (is_opened c) ns ≡ 129 * number_of (is_opened c) ns + 18 * length (plain r ns c)
  items_weigh ns c other short long =
      let all = (run_weighs ns (first_world r) (λ d. 0) short long (λ d. record { octets = refl; elsewhere = other }) c).octets in
      omega (arith, all)
