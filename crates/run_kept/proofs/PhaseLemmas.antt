-- Who is gone, by the notes.
use Rattle.run_kept.proofs.Below.{◌≡◌, ℕ, List, [], ◌∷◌, ◌++◌, Option, Some, None, is_some, Bool, true, false, cond, nat_eq, ◌&&◌, ◌||◌, refl, sym, ap, ◌∙◌, and-false, or_assoc, Phase, Head, Open, Leaving, Ending, Gone, NoteValue, OrderValue, send, subscribe, unsubscribe, publish, close, is_of, is_gone, window, is_acceptance, gather, has_number, accepted_by, is_accepted, Line, World, moved, closing, line_after, after_own, step, run, first_world, is_refused, is_gone_phase, phase, has_number-append, act, gone_stays, or_false, and_true, moved_some, accepted_own, obeys_by, act_some, step_same, is_departure}
use Rattle.ws_kinds.specs.NoteValue as note
use Rattle.run_meaning.specs.Server as run

-- ---- one note

-- a phase after a note, and after notes
abbrev pub phase_after : ℕ → NoteValue → Option Phase → Option Phase
phase_after c n p = cond (is_of c n) (moved p n) p

moved_gone : (p : Option Phase) (n : NoteValue) → is_gone_phase (moved p n) ≡ (is_gone_phase p || (is_some p && is_departure n))
moved_gone None (note.accepted c) = refl
moved_gone None _ = refl
moved_gone (Some Head) (note.opened c route param) = refl
moved_gone (Some Head) (note.head c status) = refl
moved_gone (Some Head) (note.gone c left) = refl
moved_gone (Some Head) _ = refl
moved_gone (Some Open) (note.peer_close c code reason) = refl
moved_gone (Some Open) (note.failed c code) = refl
moved_gone (Some Open) (note.gone c left) = refl
moved_gone (Some Open) _ = refl
moved_gone (Some Leaving) (note.peer_close c code reason) = refl
moved_gone (Some Leaving) (note.failed c code) = refl
moved_gone (Some Leaving) (note.gone c left) = refl
moved_gone (Some Leaving) _ = refl
moved_gone (Some Ending) (note.gone c left) = refl
moved_gone (Some Ending) _ = refl
moved_gone (Some Gone) n = ap is_gone_phase (gone_stays n)

-- ---- of which connection a note tells

pub gone_own : (c : ℕ) (n : NoteValue) → is_gone c n ≡ (is_of c n && is_departure n)
gone_own c (note.gone d left) = and_true (nat_eq d c)
gone_own c n = sym (and-false (is_of c n))

pub after_some : (c : ℕ) (n : NoteValue) (p : Option Phase) → is_some (phase_after c n p) ≡ (is_some p || has_number c (accepted_by n))
after_some c n p = one (is_of c n) ∙ ap (λ (z : Bool). is_some p || z) (sym (accepted_own c n))
  where
    one : (b : Bool) → is_some (cond b (moved p n) p) ≡ (is_some p || (b && is_acceptance n))
    one true = moved_some p n
    one false = or_false (is_some p)

pub after_gone : (c : ℕ) (n : NoteValue) (p : Option Phase) → is_gone_phase (phase_after c n p) ≡ (is_gone_phase p || (is_some p && is_gone c n))
after_gone c n p = one (is_of c n) ∙ ap (λ (z : Bool). is_gone_phase p || (is_some p && z)) (sym (gone_own c n))
  where
    none : (a b : Bool) → a ≡ (a || (b && false))
    none true b = refl
    none false true = refl
    none false false = refl

    one : (b : Bool) → is_gone_phase (cond b (moved p n) p) ≡ (is_gone_phase p || (is_some p && (b && is_departure n)))
    one true = moved_gone p n
    one false = none (is_gone_phase p) (is_some p)

-- ---- the world

closing_gone : (p : Option Phase) → is_gone_phase (closing p) ≡ is_gone_phase p
closing_gone None = refl
closing_gone (Some Head) = refl
closing_gone (Some Open) = refl
closing_gone (Some Leaving) = refl
closing_gone (Some Ending) = refl
closing_gone (Some Gone) = refl

act_gone : (o : OrderValue) (l : Line) → is_gone_phase (act o l).phase ≡ is_gone_phase l.phase
act_gone (send to kind body) l = refl
act_gone (subscribe topic) l = refl
act_gone (unsubscribe topic) l = refl
act_gone (publish topic kind body) l = refl
act_gone (close code reason) l = closing_gone l.phase

-- whether a connection is gone after notes, where it has a phase or not, and is gone or not
abbrev pub gone_after : ℕ → List NoteValue → Bool → Bool → Bool
gone_after c [] some gone = gone
gone_after c (n ∷ ns) some gone = gone_after c ns (some || has_number c (accepted_by n)) (gone || (some && is_gone c n))

pub gone_then : (c : ℕ) (xs ys : List NoteValue) (some gone : Bool) → gone_after c (xs ++ ys) some gone ≡ gone_after c ys (some || is_accepted c xs) (gone_after c xs some gone)
gone_then c [] ys some gone = ap (λ (z : Bool). gone_after c ys z gone) (or_false some)
gone_then c (x ∷ xs) ys some gone =
    gone_then c xs ys (some || has_number c (accepted_by x)) (gone || (some && is_gone c x))
    ∙ ap (λ (z : Bool). gone_after c ys z (gone_after c xs (some || has_number c (accepted_by x)) (gone || (some && is_gone c x))))
    (or_assoc some (has_number c (accepted_by x)) (is_accepted c xs) ∙ ap (λ (z : Bool). some || z) (sym (has_number-append c (accepted_by x) (gather accepted_by xs))))

-- once gone, always gone
pub gone_ever : (c : ℕ) (ns : List NoteValue) (some : Bool) → gone_after c ns some true ≡ true
gone_ever c [] some = refl
gone_ever c (n ∷ ns) some = gone_ever c ns (some || has_number c (accepted_by n))

module _ {S : Type 0} (r : run.Server S) where
  line_phase : (c : ℕ) (n : NoteValue) (l : Line) → (line_after r c n l).phase ≡ phase_after c n l.phase
  line_phase c n l = one (is_of c n)
    where
      one : (b : Bool) → (cond b (after_own r n l) l).phase ≡ cond b (moved l.phase n) l.phase
      one true = refl
      one false = refl

  run_gone : (d : ℕ) (ns : List NoteValue) (w : World S) → is_gone_phase ((run r w ns).line d).phase ≡ gone_after d ns (is_some (w.line d).phase) (is_gone_phase (w.line d).phase)
  run_gone d [] w = refl
  run_gone d (n ∷ ns) w =
      let u = is_refused (window ns) in
      let p = (w.line d).phase in
      let some = step_same r d (λ l. is_some l.phase) (λ from o l. obeys_by (λ (z : Line). is_some z.phase ≡ is_some l.phase) from d o l (act_some o l) refl) u n w ∙ ap is_some (line_phase d n (w.line d)) ∙ after_some d n p in
      let gone = step_same r d (λ l. is_gone_phase l.phase) (λ from o l. obeys_by (λ (z : Line). is_gone_phase z.phase ≡ is_gone_phase l.phase) from d o l (act_gone o l) refl) u n w
      ∙ ap is_gone_phase (line_phase d n (w.line d)) ∙ after_gone d n p in
      run_gone d ns (step r u n w) ∙ ap (λ (z : Bool). gone_after d ns z (is_gone_phase ((step r u n w).line d).phase)) some
      ∙ ap (gone_after d ns (is_some p || has_number d (accepted_by n))) gone

  -- whether a connection is gone, by all notes
  pub world_gone : (d : ℕ) (ns : List NoteValue) → is_gone_phase (phase r ns d) ≡ gone_after d ns false false
  world_gone d ns = run_gone d ns (first_world r)
