-- Of a connection that was not accepted, and that no note names but by its arrival, nothing is known.
use Rattle.run_kept.proofs.Below.{◌≡◌, ◌<◌, ◌+◌, ℕ, suc, zero, List, [], ◌∷◌, ◌++◌, Option, Some, None, Bool, true, false, cond, not, nat_eq, ◌&&◌, ◌||◌, length, take, slice_get, refl, sym, ap, ◌∙◌, subst, append-nil, append_assoc, arith, nat_tests, list_all, and-false, Phase, Why, Absent, ConfigValue, NoteValue, EventValue, OrderValue, send, subscribe, unsubscribe, publish, close, is_of, is_event, is_gone, window, has_number, accepted_by, only_if, dropped_by, drops, is_accepted, is_gone_in, Line, World, unknown, line_after, after_own, noted, step, first_world, world, obey, obeyed, put, data_frame, has_topic, with_topic, without_topic, closed_by_server, is_refused, orders_of, event_of, Ordered, Justified, event_at, at_order, asked, named, standings, unless_gone, why_at, why_send, by_reason, by_memory, by_gone, is_arrival, refused_more, step_plain, step_event, window_event, perform-line, named-none, by_cases, clash, and_left, and_right, own_line, other_line, rest_unaccepted, gathers_none, none_obeys, obeyed_keeps, is_at_most_arrival, not_own}
use Rattle.ws_kinds.specs.declared.note.Why.TheVariants.{Memory}
use Rattle.ws_kinds.specs.NoteValue as note
use Rattle.ws_kinds.specs.EventValue as event
use Rattle.run_meaning.specs.Server as run
use Rattle.run_meaning.specs.Lines as lines

-- ---- bits

arrives_where_own : (own arrives : Bool) → (not own || arrives) ≡ true → own ≡ true → arrives ≡ true
arrives_where_own true arrives e h = e
arrives_where_own false arrives e h = clash false refl h

below_length : {A : Type 0} (i : ℕ) (xs : List A) (x : A) → slice_get xs i ≡ Some x → i < length xs
below_length i [] x e = absurd (let z : None ≡ Some x = e in cc)
below_length zero (y ∷ xs) x e = omega arith
below_length (suc i) (y ∷ xs) x e = let h = below_length i xs x e in omega arith

zero_plus : (j : ℕ) → 0 + j ≡ j
zero_plus j = omega arith

-- orders of another connection leave one that is unknown, where those that ask for it are refused
away_orders : (u : ℕ → Bool) (from c i : ℕ) (os : List OrderValue) → nat_eq from c ≡ false → ((j : ℕ) (o : OrderValue) → slice_get os j ≡ Some o → asked from o ≡ Some c → u (i + j) ≡ true) → obeyed u from c i os unknown ≡ unknown
away_orders u from c i [] apart refused = refl
away_orders u from c i (o ∷ os) apart refused =
    ap (λ (z : Line). obeyed u from c (i + 1) os z) (one o (λ e. sym (ap u (plus_zero i)) ∙ refused zero o refl e))
    ∙ away_orders u from c (i + 1) os apart (λ j p at e. ap u (plus_one i j) ∙ refused (suc j) p at e)
  where
    plus_zero : (i : ℕ) → i + 0 ≡ i
    plus_zero i = omega arith

    plus_one : (i j : ℕ) → i + 1 + j ≡ i + suc j
    plus_one i j = omega arith

    unless : (b own : Bool) (m : Line) → (own ≡ true → b ≡ true) → cond b unknown (cond own m unknown) ≡ unknown
    unless true own m h = refl
    unless false true m h = clash false refl (h refl)
    unless false false m h = refl

    own_is : (to c : ℕ) → nat_eq to c ≡ true → Some to ≡ Some c
    own_is to c e = grind (arith, nat_tests)

    one : (o : OrderValue) → (asked from o ≡ Some c → u i ≡ true) → cond (u i) unknown (obey from c o unknown) ≡ unknown
    one (send to kind body) h = unless (u i) (nat_eq to c) (put (data_frame kind body ∷ []) unknown) (λ e. h (own_is to c e))
    one (subscribe topic) h = unless (u i) (nat_eq from c) (record unknown { topics = with_topic topic [] }) (λ e. clash (nat_eq from c) apart e)
    one (unsubscribe topic) h = unless (u i) (nat_eq from c) (record unknown { topics = without_topic topic [] }) (λ e. clash (nat_eq from c) apart e)
    one (publish topic kind body) h = unless (u i) (not (nat_eq from c) && has_topic topic []) (put (data_frame kind body ∷ []) unknown) (λ e. clash (not (nat_eq from c) && has_topic topic []) (and-false (not (nat_eq from c))) e)
    one (close code reason) h = unless (u i) (nat_eq from c) (closed_by_server code reason unknown) (λ e. clash (nat_eq from c) apart e)

-- a note that says of the connection at most that it came
not_gone : (c : ℕ) (n : NoteValue) → is_at_most_arrival c n ≡ true → is_gone c n ≡ false
not_gone c (note.gone d left) e = not_own (nat_eq d c) e
not_gone c _ e = refl

not_dropped : (c : ℕ) (n : NoteValue) → is_at_most_arrival c n ≡ true → dropped_by c n ≡ []
not_dropped c (note.dropped d index held) e = ap (λ (z : Bool). only_if z index) (not_own (nat_eq d c) e)
not_dropped c _ e = refl

pub none_dropped : (c : ℕ) (ns : List NoteValue) → list_all (is_at_most_arrival c) ns ≡ true → drops c ns ≡ []
none_dropped c ns e = gathers_none (is_at_most_arrival c) (dropped_by c) (not_dropped c) ns e

window_not_gone : (c : ℕ) (ns : List NoteValue) → list_all (is_at_most_arrival c) ns ≡ true → is_gone_in c (window ns) ≡ false
window_not_gone c [] e = refl
window_not_gone c (n ∷ ns) e =
    one (is_event n) (not_gone c n (and_left (is_at_most_arrival c n) (list_all (is_at_most_arrival c) ns) e))
    (window_not_gone c ns (and_right (is_at_most_arrival c n) (list_all (is_at_most_arrival c) ns) e))
  where
    one : (b : Bool) → is_gone c n ≡ false → is_gone_in c (window ns) ≡ false → is_gone_in c (cond b [] (n ∷ window ns)) ≡ false
    one true here later = refl
    one false here later = ap (λ (z : Bool). z || is_gone_in c (window ns)) here ∙ later

-- the event of a note that names the connection at most by its arrival is that of another one
event_is : {S : Type 0} (c : ℕ) (n : NoteValue) (w : World S) → is_event n ≡ true → is_at_most_arrival c n ≡ true → (e : EventValue) × (event_at n w ≡ Some e) × (nat_eq e.conn c ≡ false)
event_is c (note.opened d route param) w e most = (event_of d event.opened w, refl, not_own (nat_eq d c) most)
event_is c (note.message d kind body) w e most = (event_of d (event.message kind body) w, refl, not_own (nat_eq d c) most)
event_is c (note.told d dropped drained) w e most = (event_of d (event.told dropped drained) w, refl, not_own (nat_eq d c) most)
event_is c (note.closed d code reason) w e most = (event_of d (event.closed code reason) w, refl, not_own (nat_eq d c) most)
event_is c _ w e most = clash false refl e

module _ {S : Type 0} (r : run.Server S) (f : ConfigValue) (c : ℕ) where
  -- ---- one note

  own_arrival : (n : NoteValue) → is_arrival n ≡ true → has_number c (accepted_by n) ≡ false → is_of c n ≡ true → after_own r n unknown ≡ unknown
  own_arrival (note.accepted d) e away own = clash false refl (sym away ∙ ap (λ (z : Bool). z || false) (turned d c own))
    where
      turned : (d c : ℕ) → nat_eq d c ≡ true → nat_eq c d ≡ true
      turned d c e = grind (arith, nat_tests)
  own_arrival (note.busy d) e away own = refl
  own_arrival (note.no_room d) e away own = refl
  own_arrival _ e away own = clash false refl e

  line_arrival : (n : NoteValue) (l : Line) → is_at_most_arrival c n ≡ true → has_number c (accepted_by n) ≡ false → l ≡ unknown → line_after r c n l ≡ unknown
  line_arrival n l most away e = by_cases (is_of c n)
      (λ own. own_line r c n l own ∙ ap (λ (z : Line). after_own r n z) e ∙ own_arrival n (arrives_where_own (is_of c n) (is_arrival n) most own) away own)
      (λ other. other_line r c n l other ∙ e)

  -- ---- the world after some notes, before others

  abbrev front : World S → List NoteValue → List NoteValue → World S
  front w [] rest = w
  front w (x ∷ xs) rest = front (step r (is_refused (window (xs ++ rest))) x w) xs rest

  front_one : (w : World S) (xs : List NoteValue) (n : NoteValue) (rest : List NoteValue) → front w (xs ++ n ∷ []) rest ≡ step r (is_refused (window rest)) n (front w xs (n ∷ rest))
  front_one w [] n rest = refl
  front_one w (x ∷ xs) n rest =
      ap (λ (z : List NoteValue). front (step r (is_refused (window z)) x w) (xs ++ n ∷ []) rest) (append_assoc xs (n ∷ []) rest) ∙ front_one (step r (is_refused (window (xs ++ n ∷ rest))) x w) xs n rest

  front_all : (w : World S) (xs : List NoteValue) → front w xs [] ≡ lines.run r w xs
  front_all w [] = refl
  front_all w (x ∷ xs) = ap (λ (z : List NoteValue). front (step r (is_refused (window z)) x w) xs []) (append-nil xs) ∙ front_all (step r (is_refused (window xs)) x w) xs

  front_event : (w : World S) (xs rest : List NoteValue) → ((d i : ℕ) → is_refused (window rest) d i ≡ false) → front w xs rest ≡ lines.run r w xs
  front_event w [] rest h = refl
  front_event w (x ∷ xs) rest h =
      ap (λ (u : ℕ → ℕ → Bool). front (step r u x w) xs rest) (λ k d i. refused_more xs rest d i (h d i) k) ∙ front_event (step r (is_refused (window xs)) x w) xs rest h

  -- ---- an event's orders

  own_apart : (d : ℕ) → nat_eq d c ≡ false → Some d ≡ Some c → ⊥
  own_apart d apart e = let z : d ≡ c = cc in absurd (grind (arith, nat_tests))

  absent : (o : OrderValue) (e : EventValue) (w : World S) (number : ℕ) (ns : List NoteValue) → nat_eq e.conn c ≡ false → asked e.conn o ≡ Some c → (w.line c).phase ≡ None
      → why_at f r.admits e.conn (standings (at_order r e number w ns)) o ≡ Some Absent
  absent (send to kind body) e w number ns apart ask none =
      let is_c : to ≡ c = let z : Some to ≡ Some c = ask in cc in
      let v : World S = record w { state = r.after w.state e } in
      let still : ((at_order r e number w ns).line c).phase ≡ None =
      ap (λ (z : Line). z.phase) (perform-line (is_refused ns e.conn) e.conn c 0 (take number (orders_of r e w)) v)
      ∙ obeyed_keeps r c (λ (z : Line). z.phase ≡ None) (λ from o l. none_obeys from c o l) (is_refused ns e.conn) e.conn 0 (take number (orders_of r e w)) (w.line c) none in
      ap (λ (z : ℕ). why_send f (unless_gone ((at_order r e number w ns).line z).phase) kind body) is_c ∙ ap (λ (z : Option Phase). why_send f (unless_gone z) kind body) still
  absent (subscribe topic) e w number ns apart ask none = absurd (own_apart e.conn apart ask)
  absent (unsubscribe topic) e w number ns apart ask none = absurd (own_apart e.conn apart ask)
  absent (publish topic kind body) e w number ns apart ask none = absurd (let z : None ≡ Some c = ask in cc)
  absent (close code reason) e w number ns apart ask none = absurd (own_apart e.conn apart ask)

  refused_if : (d number : ℕ) (ns : List NoteValue) (y : Why) → named d number ns ≡ Some y → is_refused ns d number ≡ true
  refused_if d number ns y e = by_cases (is_refused ns d number) (λ t. t) (λ free. absurd (let z : None ≡ Some y = sym (named-none d number ns free) ∙ e in cc))

  away_refused : (e : EventValue) (w : World S) (number : ℕ) (o : OrderValue) (ns : List NoteValue) → nat_eq e.conn c ≡ false → (w.line c).phase ≡ None → is_gone_in c ns ≡ false → asked e.conn o ≡ Some c
      → Justified r f e.conn number o (at_order r e number w ns) ns → is_refused ns e.conn number ≡ true
  away_refused e w number o ns apart none stays ask (by_reason q) = refused_if e.conn number ns Absent (q ∙ absent o e w number ns apart ask none)
  away_refused e w number o ns apart none stays ask (by_memory q why needs) = refused_if e.conn number ns Memory q
  away_refused e w number o ns apart none stays ask (by_gone other q gone may) =
      let same : other ≡ c = let z : Some other ≡ Some c = sym q ∙ ask in cc in
      clash (is_gone_in c ns) stays (ap (λ (z : ℕ). is_gone_in z ns) (sym same) ∙ gone)

  -- ---- all notes

  abbrev at : List NoteValue → List NoteValue → World S
  at before rest = front (first_world r) before rest

  one_unknown : (before rest : List NoteValue) (n : NoteValue) → Ordered r f (before ++ n ∷ rest) → is_at_most_arrival c n ≡ true → has_number c (accepted_by n) ≡ false → list_all (is_at_most_arrival c) rest ≡ true
      → ((at before (n ∷ rest)).line c) ≡ unknown → (step r (is_refused (window rest)) n (at before (n ∷ rest))).line c ≡ unknown
  one_unknown before rest n ordered most away later e = by_cases (is_event n)
      (λ gives.
      let w = at before (n ∷ rest) in
      let u = is_refused (window rest) in
      let v = noted r n w in
      let is_world : w ≡ world r before = front_event (first_world r) before (n ∷ rest) (λ d i. window_event n rest d i gives) in
      let it = event_is c n v gives most in
      let line : v.line c ≡ unknown = line_arrival n (w.line c) most away e in
      let justified = ordered.justified before rest n refl it.0 (subst (λ (z : World S). event_at n (noted r n z) ≡ Some it.0) is_world it.1) in
      ap (λ (z : World S). z.line c) (step_event r u n w it.0 it.1)
      ∙ perform-line (u it.0.conn) it.0.conn c 0 (orders_of r it.0 v) (record v { state = r.after v.state it.0 })
      ∙ ap (λ (z : Line). obeyed (u it.0.conn) it.0.conn c 0 (orders_of r it.0 v) z) line
      ∙ away_orders (u it.0.conn) it.0.conn c 0 (orders_of r it.0 v) it.2 (λ j o get ask.
      let get_there : slice_get (orders_of r it.0 (noted r n (world r before))) j ≡ Some o = subst (λ (z : World S). slice_get (orders_of r it.0 (noted r n z)) j ≡ Some o) is_world get in
      ap (u it.0.conn) (zero_plus j) ∙ away_refused it.0 (noted r n (world r before)) j o (window rest) it.2
      (subst (λ (z : World S). ((noted r n z).line c).phase ≡ None) is_world (ap (λ (z : Line). z.phase) line)) (window_not_gone c rest later) ask
      (justified j (below_length j (orders_of r it.0 (noted r n (world r before))) o get_there) o get_there)))
      (λ plain. ap (λ (z : World S). z.line c) (step_plain r (is_refused (window rest)) n (at before (n ∷ rest)) plain) ∙ line_arrival n ((at before (n ∷ rest)).line c) most away e)

  all_unknown : (before rest : List NoteValue) → Ordered r f (before ++ rest) → list_all (is_at_most_arrival c) rest ≡ true → is_accepted c rest ≡ false → (at before rest).line c ≡ unknown → (at (before ++ rest) []).line c ≡ unknown
  all_unknown before [] ordered most away e = ap (λ (z : List NoteValue). (at z []).line c) (append-nil before) ∙ e
  all_unknown before (n ∷ rest) ordered most away e =
      let u = rest_unaccepted c n rest away in
      let shift : (before ++ n ∷ []) ++ rest ≡ before ++ n ∷ rest = append_assoc before (n ∷ []) rest in
      let later = and_right (is_at_most_arrival c n) (list_all (is_at_most_arrival c) rest) most in
      ap (λ (z : List NoteValue). (at z []).line c) (sym shift)
      ∙ all_unknown (before ++ n ∷ []) rest (subst (λ (z : List NoteValue). Ordered r f z) (sym shift) ordered) later u.1
      (ap (λ (z : World S). z.line c) (front_one (first_world r) before n rest)
      ∙ one_unknown before rest n ordered (and_left (is_at_most_arrival c n) (list_all (is_at_most_arrival c) rest) most) u.0 later e)

  pub unknown_line : (ns : List NoteValue) → Ordered r f ns → list_all (is_at_most_arrival c) ns ≡ true → is_accepted c ns ≡ false → (world r ns).line c ≡ unknown
  unknown_line ns ordered most away = ap (λ (z : World S). z.line c) (sym (front_all (first_world r) ns)) ∙ all_unknown [] ns ordered most away refl
