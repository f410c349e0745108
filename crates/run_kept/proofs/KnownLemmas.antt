-- Who was accepted and who is gone.
use Rattle.run_kept.proofs.Below.{◌≡◌, ⊎_elim, ◌≢◌, ℕ, List, [], ◌∷◌, ◌++◌, Option, Some, None, is_some, Bool, true, false, cond, ◌&&◌, ◌||◌, refl, sym, ap, ◌∙◌, subst, append-nil, append_assoc, list_any, or-true, and-false, is_same, by_cases, clash, or_left, or_right, or_false, Phase, Head, Open, Leaving, Ending, Gone, ConfigValue, NoteValue, OrderValue, is_of, is_gone, conn_of, has_number, accepted_by, is_accepted, is_gone_in, World, moved, closing, world, is_gone_phase, phase, is_arrival, accepted-append, gone-append, Server, Progress, progress_at, progress_by, progress_after, progress_after_all, progress_obeys, unless_gone, Advances, Agrees, closing_some, phase_some, unaccepted_phase, rest_unaccepted, Known, IsHere, Shows, AreSound, is_departure}
use Rattle.ws_kinds.specs.NoteValue as note
use Rattle.run_meaning.specs.Server as run
use Rattle.run_kept.proofs.EntryLemmas.{order_phase}
use Rattle.run_kept.proofs.PhaseLemmas.{phase_after, after_some, after_gone, gone_own, gone_after, gone_then, gone_ever, world_gone}

-- ---- one note more

pub accepted_one : (c : ℕ) (ns : List NoteValue) (n : NoteValue) → is_accepted c (ns ++ n ∷ []) ≡ (is_accepted c ns || has_number c (accepted_by n))
accepted_one c ns n = accepted-append c ns (n ∷ []) ∙ ap (λ (z : List ℕ). is_accepted c ns || has_number c z) (append-nil (accepted_by n))

pub gone_one : (c : ℕ) (ns : List NoteValue) (n : NoteValue) → is_gone_in c (ns ++ n ∷ []) ≡ (is_gone_in c ns || is_gone c n)
gone_one c ns n = gone-append c ns (n ∷ []) ∙ ap (λ (z : Bool). is_gone_in c ns || z) (sym (or_false (is_gone c n)))

-- ---- phases that are there

pub some_is : (p : Option Phase) → p ≢ None → is_some p ≡ true
some_is None h = absurd (h refl)
some_is (Some q) h = refl

-- ---- the world of notes that are sound

-- where a note of a list passes a test
record Found (passes : NoteValue → Bool) (ns : List NoteValue) : Type 0 where
  before : List NoteValue
  rest : List NoteValue
  this : NoteValue
  split : ns ≡ before ++ this ∷ rest
  passing : passes this ≡ true

found : (passes : NoteValue → Bool) (ns : List NoteValue) → list_any passes ns ≡ true → Found passes ns
found passes [] e = clash false refl e
found passes (n ∷ ns) e = by_cases (passes n)
    (λ here. record { before = []; rest = ns; this = n; split = refl; passing = here })
    (λ later.
    let x = found passes ns (sym (ap (λ (z : Bool). z || list_any passes ns) later) ∙ e) in
    record { before = n ∷ x.before; rest = x.rest; this = x.this; split = ap (λ (z : List NoteValue). n ∷ z) x.split; passing = x.passing })

-- who is not gone by any note is not gone
gone_if : (c : ℕ) (ns : List NoteValue) (some : Bool) → is_gone_in c ns ≡ false → gone_after c ns some false ≡ false
gone_if c [] some none = refl
gone_if c (n ∷ ns) some none =
    ap (gone_after c ns (some || has_number c (accepted_by n))) (ap (λ (z : Bool). some && z) (or_left (is_gone c n) (is_gone_in c ns) none) ∙ and-false some)
    ∙ gone_if c ns (some || has_number c (accepted_by n)) (or_right (is_gone c n) (is_gone_in c ns) none)

gone_names : (c : ℕ) (n : NoteValue) → is_gone c n ≡ true → (conn_of n ≡ Some c) × (is_arrival n ≡ false)
gone_names c (note.gone d left) e = (ap Some (is_same d c e), refl)
gone_names c _ e = clash false refl e

-- a note that ends a connection which was accepted, and what follows
gone_at : (c : ℕ) (before rest : List NoteValue) (n : NoteValue) → is_accepted c before ≡ true → is_gone c n ≡ true → gone_after c (before ++ n ∷ rest) false false ≡ true
gone_at c before rest n was e =
    let g = gone_after c before false false in
    gone_then c before (n ∷ rest) false false
    ∙ ap (λ (z : Bool). gone_after c rest (z || has_number c (accepted_by n)) (g || (z && is_gone c n))) was
    ∙ ap (λ (z : Bool). gone_after c rest true (g || z)) e ∙ ap (gone_after c rest true) (or-true g) ∙ gone_ever c rest true

module _ {S : Type 0} (r : run.Server S) where
  module _ (f : ConfigValue) where
    gone_by_notes : (ns : List NoteValue) → AreSound r f ns → (c : ℕ) → is_gone_in c ns ≡ true → is_gone_phase (phase r ns c) ≡ true
    gone_by_notes ns sound c e =
        let x = found (is_gone c) ns e in
        let s = sound x.before x.rest x.this x.split in
        let names = gone_names c x.this x.passing in
        let was : is_accepted c x.before ≡ true = by_cases (is_accepted c x.before)
        (λ was. was)
        (λ new. clash (is_arrival x.this) names.1 (s.named c names.0 new)) in
        world_gone r c ns ∙ ap (λ (z : List NoteValue). gone_after c z false false) x.split ∙ gone_at c x.before x.rest x.this was x.passing

    -- what the notes make known, where each is sound
    pub known_world : (ns : List NoteValue) → AreSound r f ns → Known (world r ns) ns
    known_world ns sound = record {
      accepted = λ c. phase_some r c ns;
      gone = λ c. by_cases (is_gone_in c ns)
          (λ gone. gone_by_notes ns sound c gone ∙ sym gone)
          (λ none. world_gone r c ns ∙ gone_if c ns false none ∙ sym none);
    }

    -- who was not accepted is not gone
    pub gone_accepted : (ns : List NoteValue) → AreSound r f ns → (c : ℕ) → is_accepted c ns ≡ false → is_gone_in c ns ≡ false
    gone_accepted ns sound c new = sym ((known_world ns sound).gone c) ∙ ap is_gone_phase (unaccepted_phase r c ns new)

-- ---- what a hub shows

pub here_by : (p q : Option Phase) (c : ℕ) (ns : List NoteValue) → q ≡ p → IsHere p c ns → IsHere q c ns
here_by p q c ns e x = record { accepted = λ h. x.accepted (ap is_some (sym e) ∙ h); stays = λ h. x.stays (ap is_some (sym e) ∙ h) }

shown_some : (p : Option Phase) → is_some (unless_gone p) ≡ true → (is_some p ≡ true) × (is_gone_phase p ≡ false)
shown_some None e = clash false refl e
shown_some (Some Head) e = (refl, refl)
shown_some (Some Open) e = (refl, refl)
shown_some (Some Leaving) e = (refl, refl)
shown_some (Some Ending) e = (refl, refl)
shown_some (Some Gone) e = clash false refl e

pub shows_known : {S : Type 0} (w : World S) (ns : List NoteValue) (s : Server) → Known w ns → Agrees w ns s → Shows ns s
shows_known w ns s x agrees c =
    let p = (w.line c).phase in
    let shown : (progress_at s.hub c).phase ≡ unless_gone p = ap (λ (z : Progress). z.phase) (agrees.lines c).progress in
    here_by (unless_gone p) (progress_at s.hub c).phase c ns shown (record {
      accepted = λ h. sym (x.accepted c) ∙ (shown_some p h).0;
      stays = λ h. sym (x.gone c) ∙ (shown_some p h).1;
    })

-- a connection after one more note. One that it accepts was not gone
pub here_note : (c : ℕ) (n : NoteValue) (q : Progress) (ns : List NoteValue) → (has_number c (accepted_by n) ≡ true → is_gone_in c ns ≡ false) → IsHere q.phase c ns → IsHere (progress_after c n q).phase c (ns ++ n ∷ [])
here_note c n q ns new x = by_cases (is_of c n)
    (λ own.
    let p = q.phase in
    let next = phase_after c n p in
    let same : (progress_after c n q).phase ≡ unless_gone next =
    ap (λ (z : Bool). (cond z (progress_by n q) q).phase) own ∙ ap (λ (z : Bool). unless_gone (cond z (moved p n) p)) (sym own) in
    here_by (unless_gone next) (progress_after c n q).phase c (ns ++ n ∷ []) same (record {
      accepted = λ h. accepted_one c ns n ∙ or_more (is_some p) (has_number c (accepted_by n)) (is_accepted c ns) x.accepted (sym (after_some c n p) ∙ (shown_some next h).0);
      stays = λ h.
          let here : (is_some p || has_number c (accepted_by n)) ≡ true = sym (after_some c n p) ∙ (shown_some next h).0 in
          let left = sym (after_gone c n p) ∙ (shown_some next h).1 in
          gone_one c ns n ∙ ap (λ (z : Bool). z || is_gone c n) (or_either (is_some p) (has_number c (accepted_by n)) (is_gone_in c ns) x.stays new here)
          ∙ not_both (is_some p) (has_number c (accepted_by n)) (is_gone c n) here (or_right (is_gone_phase p) (is_some p && is_gone c n) left) (not_gone c n);
    }))
    (λ other.
    let same : (progress_after c n q).phase ≡ q.phase = ap (λ (z : Bool). (cond z (progress_by n q) q).phase) other in
    here_by q.phase (progress_after c n q).phase c (ns ++ n ∷ []) same (record {
      accepted = λ h. accepted_one c ns n ∙ ap (λ (z : Bool). z || has_number c (accepted_by n)) (x.accepted h);
      stays = λ h. gone_one c ns n ∙ ap (λ (z : Bool). z || is_gone c n) (x.stays h) ∙ gone_own c n ∙ ap (λ (z : Bool). z && is_departure n) other;
    }))
  where
    or_more : (a b d : Bool) → (a ≡ true → d ≡ true) → (a || b) ≡ true → (d || b) ≡ true
    or_more true b d h e = ap (λ (z : Bool). z || b) (h refl)
    or_more false b d h e = ap (λ (z : Bool). d || z) e ∙ or-true d

    or_either : (a b d : Bool) → (a ≡ true → d ≡ false) → (b ≡ true → d ≡ false) → (a || b) ≡ true → d ≡ false
    or_either true b d h g e = h refl
    or_either false b d h g e = g e

    not_both : (a b d : Bool) → (a || b) ≡ true → (a && d) ≡ false → (b ≡ true → d ≡ false) → d ≡ false
    not_both true b d e none h = none
    not_both false b d e none h = h e

    not_gone : (c : ℕ) (n : NoteValue) → has_number c (accepted_by n) ≡ true → is_gone c n ≡ false
    not_gone c (note.accepted d) e = refl
    not_gone c _ e = clash false refl e

-- after an order that was served
pub here_order : (from c : ℕ) (o : OrderValue) (q : Progress) (ns : List NoteValue) → IsHere q.phase c ns → IsHere (progress_obeys from c o q).phase c ns
here_order from c o q ns x = ⊎_elim
    (λ same. here_by q.phase (progress_obeys from c o q).phase c ns same x)
    (λ closed. here_by (closing q.phase) (progress_obeys from c o q).phase c ns closed
    (record { accepted = λ h. x.accepted (sym (closing_some q.phase) ∙ h); stays = λ h. x.stays (sym (closing_some q.phase) ∙ h) }))
    (order_phase from c o q)

pub here_notes : (c : ℕ) (xs : List NoteValue) (q : Progress) (ns : List NoteValue) → is_accepted c xs ≡ false → IsHere q.phase c ns → IsHere (progress_after_all c xs q).phase c (ns ++ xs)
here_notes c [] q ns e x = subst (λ (z : List NoteValue). IsHere q.phase c z) (sym (append-nil ns)) x
here_notes c (n ∷ xs) q ns e x =
    let u = rest_unaccepted c n xs e in
    subst (λ (z : List NoteValue). IsHere (progress_after_all c xs (progress_after c n q)).phase c z) (append_assoc ns (n ∷ []) xs)
    (here_notes c xs (progress_after c n q) (ns ++ n ∷ []) u.1 (here_note c n q ns (λ h. clash (has_number c (accepted_by n)) u.0 h) x))

pub shows_call : (ms ns : List NoteValue) (a b : Server) → ((c : ℕ) → is_accepted c ms ≡ false) → Advances ms a b → Shows ns a → Shows (ns ++ ms) b
shows_call ms ns a b new adv x c =
    here_by (progress_after_all c ms (progress_at a.hub c)).phase (progress_at b.hub c).phase c (ns ++ ms) (ap (λ (z : Progress). z.phase) (adv.progress c))
    (here_notes c ms (progress_at a.hub c) ns (new c) (x c))

pub shows_one : (n : NoteValue) (ns : List NoteValue) (a b : Server) → ((c : ℕ) → has_number c (accepted_by n) ≡ true → is_gone_in c ns ≡ false) → Advances (n ∷ []) a b → Shows ns a → Shows (ns ++ n ∷ []) b
shows_one n ns a b new adv x c =
    here_by (progress_after c n (progress_at a.hub c)).phase (progress_at b.hub c).phase c (ns ++ n ∷ []) (ap (λ (z : Progress). z.phase) (adv.progress c))
    (here_note c n (progress_at a.hub c) ns (new c) (x c))

pub shows_sound : {S : Type 0} (r : run.Server S) (f : ConfigValue) (ns : List NoteValue) (s : Server) → AreSound r f ns → Agrees (world r ns) ns s → Shows ns s
shows_sound r f ns s sound agrees = shows_known (world r ns) ns s (known_world r f ns sound) agrees

pub shows_alike : (ns : List NoteValue) (a b : Server) → ((c : ℕ) → (progress_at b.hub c).phase ≡ (progress_at a.hub c).phase) → Shows ns a → Shows ns b
shows_alike ns a b e x c = here_by (progress_at a.hub c).phase (progress_at b.hub c).phase c ns (e c) (x c)

-- a note that ends nobody
pub shows_told : (ns : List NoteValue) (n : NoteValue) (a b : Server) → ((c : ℕ) → (progress_at b.hub c).phase ≡ (progress_at a.hub c).phase) → ((c : ℕ) → is_gone c n ≡ false) → Shows ns a → Shows (ns ++ n ∷ []) b
shows_told ns n a b e none x c =
    let y = shows_alike ns a b e x c in
    record {
      accepted = λ h. accepted_one c ns n ∙ ap (λ (z : Bool). z || has_number c (accepted_by n)) (y.accepted h);
      stays = λ h. gone_one c ns n ∙ ap (λ (z : Bool). z || is_gone c n) (y.stays h) ∙ none c;
    }
