-- Single notes that are sound at their place, and lists of them.
use Rattle.run_kept.proofs.Below.{◌≡◌, ◌≤◌, ℕ, List, [], ◌∷◌, ◌++◌, Option, Some, None, is_some, Bool, true, false, cond, nat_eq, ◌&&◌, length, refl, sym, ap, ◌∙◌, subst, arith, nat_tests, list_all, PeerEnd, LinkFailed, Idle, Finished, Phase, ConfigValue, NoteValue, all_spelled, is_of, conn_of, has_number, accepted_by, is_accepted, is_gone_in, taken, closes, all_follow, gathers_none, phase, world, kept, is_ending, Sound, NoneDue, is_arrival, is_busy, is_from_outside, may_follow_gone, entries, early, late, place_of, is_outgoing, Progress, progress_after_all, may_come, may_all_come, clash, and_left, and_right, may_then, AreSound, is_inner}
use Rattle.ws_kinds.specs.NoteValue as note
use Rattle.run_meaning.specs.Server as run

-- ---- tests

inner_arrival : (n : NoteValue) → is_inner n ≡ true → is_arrival n ≡ false
inner_arrival (note.accepted c) e = clash false refl e
inner_arrival (note.busy c) e = clash false refl e
inner_arrival (note.no_room c) e = clash false refl e
inner_arrival _ e = refl

-- of a connection that has no phase no such note comes
inner_none : (n : NoteValue) → is_inner n ≡ true → may_come None n ≡ true → is_some (conn_of n) ≡ false
inner_none note.turn e h = refl
inner_none note.tick e h = clash false refl e
inner_none (note.given c count) e h = clash false refl e
inner_none (note.accepted c) e h = clash false refl e
inner_none (note.busy c) e h = clash false refl e
inner_none (note.no_room c) e h = clash false refl e
inner_none (note.unserved c order why) e h = clash false refl e
inner_none (note.closed c code reason) e h = clash false refl e
inner_none _ e h = clash false refl h

inner_given : (n : NoteValue) → is_inner n ≡ true → (c count : ℕ) → n ≡ note.given c count → 1 ≤ count
inner_given n e c count same = clash false refl (sym (ap is_inner same) ∙ e)

inner_inside : (n : NoteValue) → is_inner n ≡ true → is_from_outside n ≡ false
inner_inside (note.accepted c) e = clash false refl e
inner_inside (note.busy c) e = clash false refl e
inner_inside (note.no_room c) e = clash false refl e
inner_inside (note.given c count) e = clash false refl e
inner_inside note.tick e = clash false refl e
inner_inside _ e = refl

inner_untold : (n : NoteValue) → is_inner n ≡ true → (c code : ℕ) (reason : List ℕ) → n ≡ note.closed c code reason → ⊥
inner_untold n e c code reason same = clash false refl (sym (ap is_inner same) ∙ e)

inner_stays : (n : NoteValue) → is_inner n ≡ true → (c : ℕ) → n ≡ note.gone c Finished → ⊥
inner_stays n e c same = clash false refl (sym (ap is_inner same) ∙ e)

told_arrival : (n : NoteValue) → may_follow_gone n ≡ true → is_arrival n ≡ false
told_arrival (note.closed c code reason) e = refl
told_arrival (note.unserved c order why) e = refl
told_arrival _ e = clash false refl e

told_given : (n : NoteValue) → may_follow_gone n ≡ true → (c count : ℕ) → n ≡ note.given c count → 1 ≤ count
told_given n e c count same = clash false refl (sym (ap may_follow_gone same) ∙ e)

told_inside : (n : NoteValue) → may_follow_gone n ≡ true → is_from_outside n ≡ false
told_inside (note.closed c code reason) e = refl
told_inside (note.unserved c order why) e = refl
told_inside _ e = clash false refl e

told_stays : (n : NoteValue) → may_follow_gone n ≡ true → (c : ℕ) → n ≡ note.gone c Finished → ⊥
told_stays n e c same = clash false refl (sym (ap may_follow_gone same) ∙ e)

pub outgoing_one : (n : NoteValue) → is_outgoing n ≡ true → is_inner n ≡ true
outgoing_one (note.took c offered took) e = refl
outgoing_one (note.dropped c index held) e = refl
outgoing_one (note.gone c PeerEnd) e = clash false refl e
outgoing_one (note.gone c LinkFailed) e = refl
outgoing_one (note.gone c Idle) e = clash false refl e
outgoing_one (note.gone c Finished) e = clash false refl e
outgoing_one _ e = clash false refl e

pub outgoing_inner : (ns : List NoteValue) → list_all is_outgoing ns ≡ true → list_all is_inner ns ≡ true
outgoing_inner ns e = all_follow is_outgoing is_inner outgoing_one ns e

pub inner_unaccepted : (ns : List NoteValue) (c : ℕ) → list_all is_inner ns ≡ true → is_accepted c ns ≡ false
inner_unaccepted ns c e = ap (has_number c) (gathers_none is_inner accepted_by none ns e)
  where
    none : (n : NoteValue) → is_inner n ≡ true → accepted_by n ≡ []
    none (note.accepted d) h = clash false refl h
    none _ h = refl

pub all_front : (p : NoteValue → Bool) (xs ys : List NoteValue) → list_all p (xs ++ ys) ≡ true → list_all p xs ≡ true
all_front p [] ys e = refl
all_front p (x ∷ xs) ys e =
    ap (λ (z : Bool). z && list_all p xs) (and_left (p x) (list_all p (xs ++ ys)) e) ∙ all_front p xs ys (and_right (p x) (list_all p (xs ++ ys)) e)

pub all_back : (p : NoteValue → Bool) (xs ys : List NoteValue) → list_all p (xs ++ ys) ≡ true → list_all p ys ≡ true
all_back p [] ys e = e
all_back p (x ∷ xs) ys e = all_back p xs ys (and_right (p x) (list_all p (xs ++ ys)) e)

-- ---- what comes

pub some_comes : (p : Option Phase) (n : NoteValue) (c : ℕ) → conn_of n ≡ Some c → is_inner n ≡ true → may_come p n ≡ true → is_some p ≡ true
some_comes None n c own e h = clash true (sym (ap is_some own) ∙ inner_none n e h) refl
some_comes (Some q) n c own e h = refl

pub own_of : (n : NoteValue) (c : ℕ) → conn_of n ≡ Some c → is_of c n ≡ true
own_of n c own = ap (λ (z : Option ℕ). one z) own ∙ same
  where
    one : Option ℕ → Bool
    one None = false
    one (Some d) = nat_eq d c

    same : nat_eq c c ≡ true
    same = grind (arith, nat_tests)

-- the note at a place of notes that may come may come there
pub comes_there : (c : ℕ) (xs ys : List NoteValue) (n : NoteValue) (q : Progress) → is_of c n ≡ true → may_all_come c (xs ++ n ∷ ys) q ≡ true → may_come (progress_after_all c xs q).phase n ≡ true
comes_there c xs ys n q own e =
    let at = progress_after_all c xs q in
    let tail = and_right (may_all_come c xs q) (may_all_come c (n ∷ ys) at) (sym (may_then c xs (n ∷ ys) q) ∙ e) in
    sym (ap (λ (z : Bool). cond z (may_come at.phase n) true) own) ∙ and_left (cond (is_of c n) (may_come at.phase n) true) (may_all_come c ys (progress_after_all c (n ∷ []) at)) tail

module _ {S : Type 0} (r : run.Server S) (f : ConfigValue) where
  -- ---- lists

  pub sound_none : AreSound r f []
  sound_none before rest n e = absurd (nothing before e)
    where
      nothing : (before : List NoteValue) → [] ≡ before ++ n ∷ rest → ⊥
      nothing [] e = cc
      nothing (m ∷ before) e = cc

  pub sound_more : (ns made : List NoteValue) → ((before rest : List NoteValue) (n : NoteValue) → made ≡ before ++ n ∷ rest → Sound r f (ns ++ before) n) → AreSound r f ns → AreSound r f (ns ++ made)
  sound_more ns made new old before rest n e =
      elim (place_of ns made before rest n e) [
        | early more p q ↦ old before more n p
        | late more p q ↦ subst (λ (z : List NoteValue). Sound r f z n) (sym p) (new more rest n q)
      ]

  -- ---- single notes

  -- a note of a connection that is there, or of none
  pub sound_inner : (ns : List NoteValue) (n : NoteValue) → is_inner n ≡ true → ((c : ℕ) → conn_of n ≡ Some c → (is_accepted c ns ≡ true) × (is_gone_in c ns ≡ false)) → Sound r f ns n
  sound_inner ns n inner here = record {
    busy = λ e. clash (is_arrival n) (inner_arrival n inner) e;
    named = λ c own new. clash (is_accepted c ns) new (here c own).0;
    given = inner_given n inner;
    gone = λ c own e. clash (is_gone_in c ns) (here c own).1 e;
    finished = λ c e. absurd (inner_stays n inner c e);
    prompt = λ e. clash (is_from_outside n) (inner_inside n inner) e;
    closed = λ c code reason e. absurd (inner_untold n inner c code reason e);
  }

  -- a note that may name one which is gone: of an end it tells what is still to be told
  pub sound_told : (ns : List NoteValue) (n : NoteValue) → may_follow_gone n ≡ true → ((c : ℕ) → conn_of n ≡ Some c → is_accepted c ns ≡ true)
      → ((c code : ℕ) (reason : List ℕ) → n ≡ note.closed c code reason → (((world r ns).line c).left_open ≡ Some (code, reason)) × (closes c ns ≡ [])) → Sound r f ns n
  sound_told ns n told here end = record {
    busy = λ e. clash (is_arrival n) (told_arrival n told) e;
    named = λ c own new. clash (is_accepted c ns) new (here c own);
    given = told_given n told;
    gone = λ c own e. told;
    finished = λ c e. absurd (told_stays n told c e);
    prompt = λ e. clash (is_from_outside n) (told_inside n told) e;
    closed = end;
  }

  pub sound_finished : (ns : List NoteValue) (c : ℕ) → is_accepted c ns ≡ true → is_gone_in c ns ≡ false → is_ending (phase r ns c) ≡ true → taken c ns ≡ length (all_spelled (kept r ns c)) → Sound r f ns (note.gone c Finished)
  sound_finished ns c was here ending all = record {
    busy = λ e. clash false refl e;
    named = λ d own new. let e : c ≡ d = cc in clash (is_accepted d ns) new (ap (λ (z : ℕ). is_accepted z ns) (sym e) ∙ was);
    given = λ d count e. absurd (cc);
    gone = λ d own e. let g : c ≡ d = cc in clash (is_gone_in d ns) (ap (λ (z : ℕ). is_gone_in z ns) (sym g) ∙ here) e;
    finished = λ d e. let g : c ≡ d = cc in subst (λ (z : ℕ). (is_ending (phase r ns z) ≡ true) × (taken z ns ≡ length (all_spelled (kept r ns z)))) g (ending, all);
    prompt = λ e. clash false refl e;
    closed = λ d code reason e. absurd (cc);
  }

  -- octets came of a connection that is there, and nothing is left to be told
  pub sound_given : (ns : List NoteValue) (c count : ℕ) → 1 ≤ count → is_accepted c ns ≡ true → is_gone_in c ns ≡ false → NoneDue r ns → Sound r f ns (note.given c count)
  sound_given ns c count some was here none = record {
    busy = λ e. clash false refl e;
    named = λ d own new. let e : c ≡ d = cc in clash (is_accepted d ns) new (ap (λ (z : ℕ). is_accepted z ns) (sym e) ∙ was);
    given = λ d many e. let g : count ≡ many = cc in subst (λ (z : ℕ). 1 ≤ z) g some;
    gone = λ d own e. let g : c ≡ d = cc in clash (is_gone_in d ns) (ap (λ (z : ℕ). is_gone_in z ns) (sym g) ∙ here) e;
    finished = λ d e. absurd (cc);
    prompt = λ e. none;
    closed = λ d code reason e. absurd (cc);
  }

  -- time went by, and nothing is left to be told
  pub sound_tick : (ns : List NoteValue) → NoneDue r ns → Sound r f ns note.tick
  sound_tick ns none = record {
    busy = λ e. clash false refl e;
    named = λ d own new. absurd (let z : None ≡ Some d = own in cc);
    given = λ d many e. absurd (cc);
    gone = λ d own e. absurd (let z : None ≡ Some d = own in cc);
    finished = λ d e. absurd (cc);
    prompt = λ e. none;
    closed = λ d code reason e. absurd (cc);
  }

  -- a connection comes, which was not accepted before, and nothing is left to be told
  pub sound_arrival : (ns : List NoteValue) (n : NoteValue) → is_arrival n ≡ true → is_busy n ≡ nat_eq (entries r ns) f.max_conns → ((c : ℕ) → conn_of n ≡ Some c → is_gone_in c ns ≡ false) → NoneDue r ns → Sound r f ns n
  sound_arrival ns n comes busy new none = record {
    busy = λ e. busy;
    named = λ c own e. comes;
    given = λ c count e. clash false refl (sym (ap is_arrival e) ∙ comes);
    gone = λ c own e. clash (is_gone_in c ns) (new c own) e;
    finished = λ c e. clash false refl (sym (ap is_arrival e) ∙ comes);
    prompt = λ e. none;
    closed = λ c code reason e. clash false refl (sym (ap is_arrival e) ∙ comes);
  }
