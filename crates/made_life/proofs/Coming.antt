-- Who comes is accepted, where memory is not short: there are fewer connections than there may be.
use Rattle.std.proofs.Common.{◌≡◌, ◌≤◌, ◌<◌, ℕ, suc, ◌+◌, Bool, true, false, cond, ◌||◌, List, [], ◌∷◌, ◌++◌, length, refl, sym, ap, ◌∙◌, arith, append-nil, append_assoc}
use Rattle.std.specs.List.{flat_map, list_any}
use Rattle.std.proofs.lemmas.Grind.{flat_map-append}
use Rattle.std.proofs.lemmas.List.{length-append}
use Rattle.ws_kinds.proofs.Facts.{clash, equal_is, or_right}
use Rattle.ws_kinds.specs.ConfigValue.{usual_config}
use Rattle.ws_kinds.specs.NoteValue as note
use Rattle.ws_kinds.specs.NoteValue.{NoteValue}
use Rattle.link_trait.specs.declared.act.Act.{Act}
use Rattle.mem_net.specs.Acts.{arrivals, passes}
use Rattle.run_meaning.specs.Counts.{accepted_by, gather, number_of}
use Rattle.run_meaning.specs.Lines.{world}
use Rattle.run_meaning.specs.Network.{Mark, marks_by, marks_of}
use Rattle.run_meaning.specs.Right.{Sound, entries, is_busy, is_entry}
use Rattle.run_meaning.specs.Server.{Server}
use Rattle.run_meaning.proofs.Growing.{world_conns}
use Rattle.run_meaning.proofs.Parts.{gather-append}
use Rattle.made_life.specs.Life.{is_want}
use Rattle.made_life.proofs.Hearing.{acts_marked, arrival_of, come_by, come_marked}

-- no more pass a test than there are
pub number_within : {A : Type 0} (p : A → Bool) (xs : List A) → number_of p xs ≤ length xs
number_within p [] = omega arith
number_within p (x ∷ xs) = one (p x) (number_within p xs)
  where
    one : (b : Bool) → number_of p xs ≤ length xs → cond b (suc (number_of p xs)) (number_of p xs) ≤ suc (length xs)
    one true h = omega arith
    one false h = omega arith

-- who comes by notes is who comes by their marks, and where these are the marks of acts, who arrives by the acts
pub come_by_acts : (acts : List Act) (ns : List NoteValue) (more : List Mark) → flat_map arrival_of more ≡ [] → gather marks_by ns ≡ flat_map marks_of (passes acts) ++ more → gather come_by ns ≡ arrivals acts
come_by_acts acts ns more none marked =
    come_marked ns ∙ ap (flat_map arrival_of) marked ∙ flat_map-append arrival_of (flat_map marks_of (passes acts)) more
    ∙ ap (λ (l : List ℕ). flat_map arrival_of (flat_map marks_of (passes acts)) ++ l) none ∙ append-nil (flat_map arrival_of (flat_map marks_of (passes acts))) ∙ acts_marked acts

accepted_come : (ns : List NoteValue) → length (gather accepted_by ns) ≤ length (gather come_by ns)
accepted_come [] = omega arith
accepted_come (note.accepted c ∷ ns) = let rest = accepted_come ns in omega (arith, rest)
accepted_come (note.busy c ∷ ns) = let rest = accepted_come ns in omega (arith, rest)
accepted_come (note.no_room c ∷ ns) = let rest = accepted_come ns in omega (arith, rest)
accepted_come (_ ∷ ns) = accepted_come ns

-- where nobody is turned away, who comes is accepted
pub none_away : (ns : List NoteValue) → list_any is_busy ns ≡ false → list_any is_want ns ≡ false → gather accepted_by ns ≡ gather come_by ns
none_away [] busy want = refl
none_away (note.accepted c ∷ ns) busy want = ap (λ (l : List ℕ). c ∷ l) (none_away ns busy want)
none_away (note.busy c ∷ ns) busy want = clash true busy refl
none_away (note.no_room c ∷ ns) busy want = clash true want refl
none_away (note.unserved c order why ∷ ns) busy want = none_away ns busy (or_right (is_want (note.unserved c order why)) (list_any is_want ns) want)
none_away (_ ∷ ns) busy want = none_away ns busy want

module _ {S : Type 0} (s : Server S) (ns : List NoteValue) (sound : (before rest : List NoteValue) (this : NoteValue) → ns ≡ before ++ this ∷ rest → Sound s usual_config before this)
    (few : length (gather come_by ns) < 1024) where
  -- fewer are there than there may be
  room_left : (before rest : List NoteValue) (c : ℕ) → ns ≡ before ++ note.busy c ∷ rest → ⊥
  room_left before rest c split =
      let full : entries s before ≡ 1024 = equal_is (entries s before) 1024 (sym ((sound before rest (note.busy c) split).busy refl)) in
      let most = number_within (is_entry s before) (world s before).conns in
      let count : length (world s before).conns ≡ length (gather accepted_by before) = ap (λ (l : List ℕ). length l) (world_conns s before) in
      let first = accepted_come before in
      let parts : length (gather come_by ns) ≡ length (gather come_by before) + length (gather come_by (note.busy c ∷ rest)) =
      ap (λ (l : List NoteValue). length (gather come_by l)) split ∙ ap (λ (l : List ℕ). length l) (gather-append come_by before (note.busy c ∷ rest)) ∙ length-append (gather come_by before) (gather come_by (note.busy c ∷ rest)) in
      omega (arith, full, most, count, first, parts, few)

  not_busy : (before rest : List NoteValue) → ns ≡ before ++ rest → list_any is_busy rest ≡ false
  not_busy before [] split = refl
  not_busy before (n ∷ rest) split = one n split (not_busy (before ++ n ∷ []) rest (split ∙ sym (append_assoc before (n ∷ []) rest)))
    where
      one : (n : NoteValue) → ns ≡ before ++ n ∷ rest → list_any is_busy rest ≡ false → (is_busy n || list_any is_busy rest) ≡ false
      one (note.busy c) split later = absurd (room_left before rest c split)
      one _ split later = later

  pub none_busy : list_any is_busy ns ≡ false
  none_busy = not_busy [] ns refl
