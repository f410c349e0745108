-- How many connections count, by the hub and by its notes; and a hub before its first note.
use Rattle.run_laws.proofs.Below.{◌≡◌, ◌≢◌, ◌<◌, ℕ, suc, List, [], ◌∷◌, ◌++◌, Option, Some, None, is_some, Bool, true, false, cond, not, nat_eq, ◌&&◌, ◌||◌, length, refl, sym, ap, ◌∙◌, ⊎_elim, arith, cases_eq, nat_tests, Phase, Head, Open, Leaving, Ending, Gone, NoteValue, gather, number_of, has_number, accepted_by, is_accepted, closes, world, first_world, is_gone_phase, is_entry, entries, has_number-append, world_conns, HubState, Server, Entry, PartingValue, is_present, has_entry, entry_at, Progress, progress_at, topics_of, topics_at, due_of, due_at, unless_gone, by_cases, clash, or_left, or_right, AreAbove, AreRising, is_kept, Agrees, untold, AreUnlike}
use Rattle.std.proofs.lemmas.Bool as bools
use Rattle.run_meaning.specs.Server as run
use Rattle.hub_lines.specs.State as hub
use Rattle.run_laws.proofs.ProgressLemmas.{progress_is}
use Rattle.run_laws.proofs.WorldLemmas.{accepted_known, unaccepted_phase, unaccepted_left}

-- ---- before the first note

no_entry_shown : (h : HubState) (c : ℕ) → h.entries ≡ [] → h.pairs ≡ [] → h.partings ≡ [] → progress_at h c ≡ record { phase = None; topics = []; due = None }
no_entry_shown h c e pairs partings =
    progress_is (unless_gone (Some (entry_at h c).phase)) None (topics_at h c) [] (due_at h c) None
    (ap (λ (z : List Entry). unless_gone (Some (hub.entry_of z c).phase)) e) (ap (λ (z : List (ℕ × List ℕ)). topics_of z c) pairs) (ap (λ (z : List PartingValue). due_of z c) partings)

nobody_there : (h : HubState) (c : ℕ) → h.entries ≡ [] → is_present h c ≡ false
nobody_there h c e = ap (λ (z : List Entry). not (hub.is_gone (hub.entry_of z c).phase)) e

pub agrees_first : {S : Type 0} (r : run.Server S) (s : Server) → s.net.tells ≡ true → s.told ≡ Some [] → s.hub.entries ≡ [] → s.hub.pairs ≡ [] → s.hub.partings ≡ [] → Agrees (first_world r) [] s
agrees_first r s tells told entries pairs partings = record {
  tells = tells;
  told = told;
  lines = λ c. record {
    progress = no_entry_shown s.hub c entries pairs partings;
    early = λ h. refl;
    once = tt {0};
    topics = λ h. refl;
    known = λ h. absurd (h refl);
    stands = λ there. clash (is_present s.hub c) (nobody_there s.hub c entries) there;
    count = λ there few. clash (is_present s.hub c) (nobody_there s.hub c entries) there;
    front = λ gone few. clash false refl gone;
    fair = λ there. clash (is_present s.hub c) (nobody_there s.hub c entries) there;
    drops = λ gone few. clash false refl gone;
  };
  took = λ c. omega arith;
}

-- ---- one connection counts by both

never_zero : (n : ℕ) → nat_eq (suc n) 0 ≡ false
never_zero n = grind (arith, nat_tests)

none_due : (left : Option (ℕ × List ℕ)) (told : List (ℕ × List ℕ)) → (is_some left && nat_eq (length told) 0) ≡ is_some (untold left told)
none_due None [] = refl
none_due (Some x) [] = refl
none_due None (t ∷ told) = refl
none_due (Some x) (t ∷ told) = never_zero (length told)

shown_there : (q p : Phase) → unless_gone (Some q) ≡ Some p → not (is_gone_phase (Some p)) ≡ true → true ≡ not (hub.is_gone q)
shown_there Head p e h = refl
shown_there Open p e h = refl
shown_there Leaving p e h = refl
shown_there Ending p e h = refl
shown_there Gone p e h = absurd (let z : None ≡ Some p = e in cc)

shown_present : (q : Phase) (p : Option Phase) → p ≢ None → unless_gone (Some q) ≡ unless_gone p → not (is_gone_phase p) ≡ not (hub.is_gone q)
shown_present q None known e = absurd (known refl)
shown_present Gone (Some Gone) known e = refl
shown_present Head (Some Gone) known e = absurd (let z : Some Head ≡ None = e in cc)
shown_present Open (Some Gone) known e = absurd (let z : Some Open ≡ None = e in cc)
shown_present Leaving (Some Gone) known e = absurd (let z : Some Leaving ≡ None = e in cc)
shown_present Ending (Some Gone) known e = absurd (let z : Some Ending ≡ None = e in cc)
shown_present q (Some Head) known e = shown_there q Head e refl
shown_present q (Some Open) known e = shown_there q Open e refl
shown_present q (Some Leaving) known e = shown_there q Leaving e refl
shown_present q (Some Ending) known e = shown_there q Ending e refl

module _ {S : Type 0} (r : run.Server S) where
  pub agrees_entry : (ns : List NoteValue) (s : Server) → Agrees (world r ns) ns s → (c : ℕ) → is_accepted c ns ≡ true → is_entry r ns c ≡ is_kept s.hub.entries s.hub.partings c
  agrees_entry ns s x c accepted =
      let l = (world r ns).line c in
      let y = x.lines c in
      let there = shown_present (entry_at s.hub c).phase l.phase (accepted_known r c ns accepted) (ap (λ (z : Progress). z.phase) y.progress) in
      let due : (is_some l.left_open && nat_eq (length (closes c ns)) 0) ≡ is_some (due_at s.hub c) = none_due l.left_open (closes c ns) ∙ ap is_some (sym (ap (λ (z : Progress). z.due) y.progress)) in
      ap (λ (z : Bool). z || (is_some l.left_open && nat_eq (length (closes c ns)) 0)) there ∙ ap (λ (z : Bool). not (hub.is_gone (entry_at s.hub c).phase) || z) due

  -- who counts was accepted
  kept_none : (ns : List NoteValue) (s : Server) → Agrees (world r ns) ns s → (c : ℕ) → is_accepted c ns ≡ false → is_kept s.hub.entries s.hub.partings c ≡ false
  kept_none ns s x c e =
      let l = (world r ns).line c in
      let y = x.lines c in
      let hidden : unless_gone (Some (entry_at s.hub c).phase) ≡ None = ap (λ (z : Progress). z.phase) y.progress ∙ ap unless_gone (unaccepted_phase r c ns e) in
      let none : due_at s.hub c ≡ None = ap (λ (z : Progress). z.due) y.progress ∙ ap (λ (z : Option (ℕ × List ℕ)). untold z (closes c ns)) (unaccepted_left r c ns e) ∙ never_due (closes c ns) in
      ap (λ (z : Bool). z || is_some (due_at s.hub c)) (hidden_away (entry_at s.hub c).phase hidden) ∙ ap is_some none
    where
      never_due : (told : List (ℕ × List ℕ)) → untold None told ≡ None
      never_due [] = refl
      never_due (t ∷ told) = refl

      hidden_away : (q : Phase) → unless_gone (Some q) ≡ None → not (hub.is_gone q) ≡ false
      hidden_away Head e = absurd (let z : Some Head ≡ None = e in cc)
      hidden_away Open e = absurd (let z : Some Open ≡ None = e in cc)
      hidden_away Leaving e = absurd (let z : Some Leaving ≡ None = e in cc)
      hidden_away Ending e = absurd (let z : Some Ending ≡ None = e in cc)
      hidden_away Gone e = refl

-- ---- how many count

number_same : (p q : ℕ → Bool) (xs : List ℕ) → ((c : ℕ) → has_number c xs ≡ true → p c ≡ q c) → number_of p xs ≡ number_of q xs
number_same p q [] same = refl
number_same p q (x ∷ xs) same =
    ap (λ (z : Bool). cond z (suc (number_of p xs)) (number_of p xs)) (same x (first_there x xs))
    ∙ ap (λ (z : ℕ). cond (q x) (suc z) z) (number_same p q xs (λ c there. same c (later_there c x xs there)))
  where
    first_there : (x : ℕ) (xs : List ℕ) → has_number x (x ∷ xs) ≡ true
    first_there x xs = let e : nat_eq x x ≡ true = grind (arith, nat_tests) in ap (λ (z : Bool). z || has_number x xs) e

    later_there : (c x : ℕ) (xs : List ℕ) → has_number c xs ≡ true → has_number c (x ∷ xs) ≡ true
    later_there c x xs e = bools.or_right (nat_eq c x) (has_number c xs) e

number_none : (xs : List ℕ) → number_of (λ (c : ℕ). false) xs ≡ 0
number_none [] = refl
number_none (x ∷ xs) = number_none xs

-- a number that is not in the list changes nothing
number_away : (k : ℕ) (p : ℕ → Bool) (xs : List ℕ) → has_number k xs ≡ false → number_of (λ (c : ℕ). nat_eq k c || p c) xs ≡ number_of p xs
number_away k p [] e = refl
number_away k p (x ∷ xs) e =
    ap (λ (z : Bool). cond (z || p x) (suc (number_of (λ (c : ℕ). nat_eq k c || p c) xs)) (number_of (λ (c : ℕ). nat_eq k c || p c) xs)) (or_left (nat_eq k x) (has_number k xs) e)
    ∙ ap (λ (z : ℕ). cond (p x) (suc z) z) (number_away k p xs (or_right (nat_eq k x) (has_number k xs) e))

-- one that is there, once, counts once
number_more : (k : ℕ) (p : ℕ → Bool) (xs : List ℕ) → AreUnlike xs → has_number k xs ≡ true → p k ≡ false → number_of (λ (c : ℕ). nat_eq k c || p c) xs ≡ suc (number_of p xs)
number_more k p [] unlike there e = clash false refl there
number_more k p (x ∷ xs) unlike there e = ⊎_elim
    (λ (q : k ≡ x).
    let here : nat_eq k x ≡ true = grind (arith, nat_tests) in
    let away : p x ≡ false = ap p (sym q) ∙ e in
    ap (λ (z : Bool). cond (z || p x) (suc (number_of (λ (c : ℕ). nat_eq k c || p c) xs)) (number_of (λ (c : ℕ). nat_eq k c || p c) xs)) here
    ∙ ap suc (number_away k p xs (ap (λ (z : ℕ). has_number z xs) q ∙ unlike.0))
    ∙ ap (λ (z : Bool). suc (cond z (suc (number_of p xs)) (number_of p xs))) (sym away))
    (λ (ne : k ≢ x).
    let other : nat_eq k x ≡ false = grind (arith, nat_tests) in
    let later : has_number k xs ≡ true = sym (ap (λ (z : Bool). z || has_number k xs) other) ∙ there in
    ap (λ (z : Bool). cond (z || p x) (suc (number_of (λ (c : ℕ). nat_eq k c || p c) xs)) (number_of (λ (c : ℕ). nat_eq k c || p c) xs)) other
    ∙ ap (λ (z : ℕ). cond (p x) (suc z) z) (number_more k p xs unlike.1 later e)
    ∙ suc_out (p x) (number_of p xs))
    (cases_eq k x)
  where
    suc_out : (b : Bool) (n : ℕ) → cond b (suc (suc n)) (suc n) ≡ suc (cond b (suc n) n)
    suc_out true n = refl
    suc_out false n = refl

above_away : (c : ℕ) (es : List Entry) → AreAbove c es → has_entry es c ≡ false
above_away c [] above = refl
above_away c (e ∷ es) above =
    let low = above.0 in
    let other : nat_eq e.conn c ≡ false = grind (arith, nat_tests) in
    ap (λ (z : Bool). z || has_entry es c) other ∙ above_away c es above.1

number_entries : (es : List Entry) (xs : List ℕ) → AreRising es → AreUnlike xs → ((c : ℕ) → has_entry es c ≡ true → has_number c xs ≡ true) → number_of (has_entry es) xs ≡ length es
number_entries [] xs rising unlike there = number_none xs
number_entries (e ∷ es) xs rising unlike there =
    let here : nat_eq e.conn e.conn ≡ true = grind (arith, nat_tests) in
    number_more e.conn (has_entry es) xs unlike (there e.conn (ap (λ (z : Bool). z || has_entry es e.conn) here)) (above_away e.conn es rising.0)
    ∙ ap suc (number_entries es xs rising.1 unlike (λ c has. there c (bools.or_right (nat_eq e.conn c) (has_entry es c) has)))

pub unlike_more : (xs : List ℕ) (x : ℕ) → AreUnlike xs → has_number x xs ≡ false → AreUnlike (xs ++ x ∷ [])
unlike_more [] x unlike away = (refl, tt {0})
unlike_more (y ∷ xs) x unlike away =
    let other = or_left (nat_eq x y) (has_number x xs) away in
    let turned : nat_eq y x ≡ false = grind (arith, nat_tests) in (
      has_number-append y xs (x ∷ []) ∙ ap (λ (z : Bool). z || (nat_eq y x || false)) unlike.0 ∙ ap (λ (z : Bool). z || false) turned,
      unlike_more xs x unlike.1 (or_right (nat_eq x y) (has_number x xs) away),
    )

module _ {S : Type 0} (r : run.Server S) where
  -- a number above all that were accepted is new
  pub new_above : (ns : List NoteValue) (s : Server) → Agrees (world r ns) ns s → (c : ℕ) → s.hub.named < c → is_accepted c ns ≡ false
  new_above ns s x c above = by_cases (is_accepted c ns)
      (λ was. let low = (x.lines c).known (accepted_known r c ns was) in absurd (omega arith))
      (λ new. new)

  pub agrees_entries : (ns : List NoteValue) (s : Server) → Agrees (world r ns) ns s → AreRising s.hub.entries → ((c : ℕ) → has_entry s.hub.entries c ≡ is_kept s.hub.entries s.hub.partings c)
      → AreUnlike (gather accepted_by ns) → entries r ns ≡ length s.hub.entries
  agrees_entries ns s x rising kept unlike =
      let es = s.hub.entries in
      let cs = gather accepted_by ns in
      ap (number_of (is_entry r ns)) (world_conns r ns)
      ∙ number_same (is_entry r ns) (has_entry es) cs (λ c accepted. agrees_entry r ns s x c accepted ∙ sym (kept c))
      ∙ number_entries es cs rising unlike (λ c has. by_cases (is_accepted c ns)
      (λ was. was)
      (λ new. clash (has_entry es c) (kept c ∙ kept_none r ns s x c new) has))
