-- A handler that echoes, and one connection by itself.
use Rattle.run_meaning.proofs.Below.{◌≡◌, ℕ, List, [], ◌∷◌, ◌++◌, Bool, true, false, cond, ◌&&◌, not, refl, sym, ap, ◌∙◌, append-nil, append_assoc, nat_eq, Kind, NoteValue, send, Item, reply, window, is_of, Line, World, step, run, first_world, world, noted, is_refused, obeyed, after_own, moved, route_after, appended, sends, put, data_frame, echo_server, echo_by, EchoLine, echo_view, echo_own, echo_after, echo_lines, echo_start, sent_back, same_number}
use Rattle.ws_kinds.specs.NoteValue as note
use Rattle.ws_kinds.specs.EventValue as event
use Rattle.run_meaning.proofs.Underway.{perform-line}

-- the one order of a message, or none
obeyed_one : (u : ℕ → Bool) (c d to : ℕ) (k : Kind) (b : List ℕ) (t : Bool) (l : Line)
    → obeyed u c d 0 (cond t (send to k b ∷ []) []) l ≡ cond (t && not (u 0)) (cond (nat_eq to d) (put (data_frame k b ∷ []) l) l) l
obeyed_one u c d to k b false l = refl
obeyed_one u c d to k b true l = one (u 0)
  where
    one : (r : Bool) → cond r l (cond (nat_eq to d) (put (data_frame k b ∷ []) l) l) ≡ cond (not r) (cond (nat_eq to d) (put (data_frame k b ∷ []) l) l) l
    one true = refl
    one false = refl

module _ (replies : ℕ → List ℕ) (text : List ℕ) (d : ℕ) where
  -- a message of any connection: z says that it is this one's, t that its route is 0, r that its order is refused
  message_view : (c : ℕ) (k : Kind) (b : List ℕ) (z t r : Bool) (l : Line)
      → echo_view (cond (t && not r) (cond z (put (data_frame k b ∷ []) (cond z (after_own (echo_server replies) (note.message c k b) l) l)) (cond z (after_own (echo_server replies) (note.message c k b) l) l)) (cond z (after_own (echo_server replies) (note.message c k b) l) l))
      ≡ cond z (record { phase = moved l.phase (note.message c k b); route = l.route; items = l.items ++ ([] ++ cond (t && not r) (data_frame k b ∷ []) []) }) (echo_view l)
  message_view c k b true true true l = refl
  message_view c k b true true false l =
      ap (λ (xs : List Item). record { phase = moved l.phase (note.message c k b); route = l.route; items = xs }) (append_assoc l.items [] (data_frame k b ∷ []))
  message_view c k b true false r l = refl
  message_view c k b false true true l = refl
  message_view c k b false true false l = refl
  message_view c k b false false r l = refl

  -- a note of no message changes no route before its message
  route_kept : (c k : ℕ) (m : NoteValue) (l : Line) (z : Bool) → route_after m l.route ≡ l.route → (cond z (after_own (echo_server replies) m l) l).route ≡ l.route
  route_kept c k m l true h = h
  route_kept c k m l false h = refl

  step_message : (u : ℕ → ℕ → Bool) (c : ℕ) (k : Kind) (b : List ℕ) (w : World (Unit {0}))
      → echo_view ((step (echo_server replies) u (note.message c k b) w).line d)
      ≡ cond (nat_eq c d) (echo_own text (u d 0) (note.message c k b) (echo_view (w.line d))) (echo_view (w.line d))
  step_message u c k b w =
      let n = note.message c k b in
      let v = noted (echo_server replies) n w in
      ap echo_view (perform-line (u c) c d 0 (echo_by c (v.line c).route (event.message k b)) v ∙ obeyed_one (u c) c d c k b (nat_eq (v.line c).route 0) (v.line d))
      ∙ message_view c k b (nat_eq c d) (nat_eq (v.line c).route 0) (u c 0) (w.line d)
      ∙ own (nat_eq c d) refl
    where
      own : (z : Bool) → nat_eq c d ≡ z
          → cond z (record { phase = moved (w.line d).phase (note.message c k b); route = (w.line d).route; items = (w.line d).items ++ ([] ++ cond (nat_eq ((noted (echo_server replies) (note.message c k b) w).line c).route 0 && not (u c 0)) (data_frame k b ∷ []) []) }) (echo_view (w.line d))
          ≡ cond z (echo_own text (u d 0) (note.message c k b) (echo_view (w.line d))) (echo_view (w.line d))
      own false e = refl
      own true e =
          ap (λ i. record { phase = moved (w.line d).phase (note.message c k b); route = (w.line d).route; items = (w.line d).items ++ ([] ++ cond (nat_eq i 0 && not (u c 0)) (data_frame k b ∷ []) []) })
          (route_kept c 0 (note.message c k b) (w.line c) (nat_eq c c) refl ∙ ap (λ i. (w.line i).route) (same_number c d e))
          ∙ ap (λ i. record { phase = moved (w.line d).phase (note.message c k b); route = (w.line d).route; items = (w.line d).items ++ ([] ++ cond (nat_eq (w.line d).route 0 && not (u i 0)) (data_frame k b ∷ []) []) })
          (same_number c d e)

  step_opened : (u : ℕ → ℕ → Bool) (c r : ℕ) (p : List ℕ) (w : World (Unit {0})) → replies d ≡ text
      → echo_view ((step (echo_server replies) u (note.opened c r p) w).line d)
      ≡ cond (nat_eq c d) (echo_own text (u d 0) (note.opened c r p) (echo_view (w.line d))) (echo_view (w.line d))
  step_opened u c r p w agree = own (nat_eq c d) refl
    where
      own : (z : Bool) → nat_eq c d ≡ z
          → echo_view (cond z (after_own (echo_server replies) (note.opened c r p) (w.line d)) (w.line d)) ≡ cond z (echo_own text (u d 0) (note.opened c r p) (echo_view (w.line d))) (echo_view (w.line d))
      own false e = refl
      own true e =
          ap (λ (x : List ℕ). record { phase = moved (w.line d).phase (note.opened c r p); route = r; items = (w.line d).items ++ reply x ∷ [] })
          (ap replies (same_number c d e) ∙ agree)

  -- any other note
  other_view : (z : Bool) (n : NoteValue) (l : Line) (r : Bool) → appended (echo_server replies) l.phase n ≡ sends text l.phase n
      → sent_back (route_after n l.route) r n ≡ [] → echo_view (cond z (after_own (echo_server replies) n l) l) ≡ cond z (echo_own text r n (echo_view l)) (echo_view l)
  other_view true n l r same none =
      ap (λ (xs : List Item). record { phase = moved l.phase n; route = route_after n l.route; items = l.items ++ xs })
      (same ∙ sym (append-nil (sends text l.phase n)) ∙ ap (λ (xs : List Item). sends text l.phase n ++ xs) (sym none))
  other_view false n l r same none = refl

  step_view : (u : ℕ → ℕ → Bool) (n : NoteValue) (w : World (Unit {0})) → replies d ≡ text
      → echo_view ((step (echo_server replies) u n w).line d) ≡ cond (is_of d n) (echo_own text (u d 0) n (echo_view (w.line d))) (echo_view (w.line d))
  step_view u (note.message c k b) w agree = step_message u c k b w
  step_view u (note.opened c r p) w agree = step_opened u c r p w agree
  step_view u n w agree = other_view (is_of d n) n (w.line d) (u d 0) refl refl

  run_view : (w : World (Unit {0})) (ns : List NoteValue) → replies d ≡ text → echo_lines text d (echo_view (w.line d)) ns ≡ echo_view ((run (echo_server replies) w ns).line d)
  run_view w [] agree = refl
  run_view w (n ∷ ns) agree =
      ap (λ (l : EchoLine). echo_lines text d l ns) (sym (step_view (is_refused (window ns)) n w agree))
      ∙ run_view (step (echo_server replies) (is_refused (window ns)) n w) ns agree

  -- one connection by itself is what all notes say of it
  pub world_view : (ns : List NoteValue) → replies d ≡ text → echo_lines text d echo_start ns ≡ echo_view ((world (echo_server replies) ns).line d)
  world_view ns agree = run_view (first_world (echo_server replies)) ns agree

-- the text of the reply changes no phase
pub lines_phase : (first second : List ℕ) (d : ℕ) (a b : EchoLine) (ns : List NoteValue) → a.phase ≡ b.phase → (echo_lines first d a ns).phase ≡ (echo_lines second d b ns).phase
lines_phase first second d a b [] h = h
lines_phase first second d a b (n ∷ ns) h =
    lines_phase first second d (echo_after first d n ns a) (echo_after second d n ns b) ns (one (is_of d n))
  where
    one : (z : Bool) → (cond z (echo_own first (is_refused (window ns) d 0) n a) a).phase ≡ (cond z (echo_own second (is_refused (window ns) d 0) n b) b).phase
    one true = ap (λ p. moved p n) h
    one false = h
