-- How many turns end by the acts of a made schedule, and which acts its first turn ends.
use Rattle.std.proofs.Common.{◌≡◌, ◌<◌, ◌≤◌, ℕ, zero, suc, ◌+◌, ◌-◌, ◌*◌, Bool, true, false, List, [], ◌∷◌, ◌++◌, length, take, drop, replicate, refl, sym, ap, ◌∙◌, subst, arith, append-nil, append_assoc, inl, inr, take-append-drop}
use Rattle.std.specs.List.{flat_map}
use Rattle.std.proofs.Math.Seq.{take-length}
use Rattle.std.proofs.Math.Nat.{eq-or-lt_of_le}
use Rattle.std.proofs.lemmas.Grind.{flat_map-append}
use Rattle.ws_kinds.specs.NoteValue as note
use Rattle.ws_kinds.specs.NoteValue.{NoteValue}
use Rattle.link_trait.specs.declared.act.Act.{Act}
use Rattle.link_trait.specs.declared.act.Act.TheVariants as act
use Rattle.link_trait.specs.declared.net.NetEvent.{NetEvent}
use Rattle.link_trait.specs.declared.net.NetEvent.TheVariants as event
use Rattle.mem_net.specs.Acts.{passes, passes_by}
use Rattle.mem_net.specs.MemNet.{FollowsSchedule, MemNetState, net_state}
use Rattle.made_schedule.specs.Generator.{state_after}
use Rattle.made_schedule.specs.Message.{message}
use Rattle.made_schedule.specs.Made.{made_acts, messages, opening, openings, round, rounds}
use Rattle.run_meaning.specs.Counts.{gather, number_of}
use Rattle.run_meaning.specs.Network.{Mark, marks_by, marks_of}
use Rattle.run_meaning.specs.Network as mark
use Rattle.run_meaning.specs.Notes.{is_turn}
use Rattle.hub_notes.proofs.NetLemmas.{number_then}

abbrev is_turn_mark : Mark → Bool
is_turn_mark (mark.arrival conn) = false
is_turn_mark mark.tick = false
is_turn_mark mark.turn = true

-- the turns that notes tell are those that they mark
turns_marked : (ns : List NoteValue) → number_of is_turn ns ≡ number_of is_turn_mark (gather marks_by ns)
turns_marked [] = refl
turns_marked (n ∷ ns) = one n ∙ ap (λ k. number_of is_turn_mark (marks_by n) + k) (turns_marked ns) ∙ sym (number_then is_turn_mark (marks_by n) (gather marks_by ns))
  where
    one : (n : NoteValue) → number_of is_turn (n ∷ ns) ≡ number_of is_turn_mark (marks_by n) + number_of is_turn ns
    one note.turn = omega arith
    one note.tick = omega arith
    one (note.accepted conn) = omega arith
    one (note.busy conn) = omega arith
    one (note.no_room conn) = omega arith
    one _ = omega arith

-- how many turns end by acts
abbrev turns_by : List Act → ℕ
turns_by acts = number_of is_turn_mark (flat_map marks_of (passes acts))

turns_then : (xs ys : List Act) → turns_by (xs ++ ys) ≡ turns_by xs + turns_by ys
turns_then xs ys =
    ap (λ (zs : List NetEvent). number_of is_turn_mark (flat_map marks_of zs)) (flat_map-append passes_by xs ys)
    ∙ ap (number_of is_turn_mark) (flat_map-append marks_of (passes xs) (passes ys))
    ∙ number_then is_turn_mark (flat_map marks_of (passes xs)) (flat_map marks_of (passes ys))

openings_turns : (count : ℕ) → turns_by (openings count) ≡ 0
unfolding openings
openings_turns zero = refl
openings_turns (suc count) = turns_then (openings count) (opening (suc count)) ∙ rw (openings_turns count) refl

messages_turns : (count state : ℕ) → turns_by (messages count state) ≡ 0
unfolding messages
messages_turns zero state = refl
messages_turns (suc count) state = turns_then (messages count state) (message (state_after (suc count) state) ∷ []) ∙ rw (messages_turns count state) refl

round_turns : (state : ℕ) → turns_by (round state) ≡ 1
round_turns state = turns_then (messages 16 state) (act.Turn ∷ []) ∙ rw (messages_turns 16 state) refl

rounds_turns : (count state : ℕ) → turns_by (rounds count state) ≡ count
unfolding rounds
rounds_turns zero state = refl
rounds_turns (suc count) state =
    turns_then (rounds count state) (round (state_after (16 * count) state)) ∙ rw (rounds_turns count state, round_turns (state_after (16 * count) state)) (one_more count)
  where
    one_more : (n : ℕ) → n + 1 ≡ suc n
    one_more n = omega arith

made_turns : (seed : ℕ) → turns_by (made_acts seed) ≡ 501
made_turns seed =
    turns_then (openings 64) (act.Turn ∷ rounds 500 seed) ∙ rw (openings_turns 64, rounds_turns 500 seed) refl

-- the turns of a run of all acts, and of no more
pub turns_of_run : (seed : ℕ) (ns : List NoteValue) (passed : List NetEvent) → gather marks_by ns ≡ flat_map marks_of passed → passed ≡ passes (made_acts seed) ++ event.Stop ∷ [] → number_of is_turn ns ≡ 502
turns_of_run seed ns passed follows is =
    turns_marked ns ∙ ap (number_of is_turn_mark) (follows ∙ ap (flat_map marks_of) is ∙ flat_map-append marks_of (passes (made_acts seed)) (event.Stop ∷ []))
    ∙ number_then is_turn_mark (flat_map marks_of (passes (made_acts seed))) (flat_map marks_of (event.Stop ∷ []))
    ∙ ap (λ k. k + 1) (made_turns seed)

-- ---- the first turn

-- acts in front of the first Turn are the same in equal lists
same_front : (xs ys more others : List Act) → turns_by xs ≡ 0 → turns_by ys ≡ 0 → xs ++ act.Turn ∷ more ≡ ys ++ act.Turn ∷ others → xs ≡ ys
same_front [] [] more others none nor same = refl
same_front [] (y ∷ ys) more others none nor same =
    let head : act.Turn ≡ y = cc in
    let here : turns_by (act.Turn ∷ ys) ≡ 0 = subst (λ (a : Act). turns_by (a ∷ ys) ≡ 0) (sym head) nor in
    absurd (omega (arith, here))
same_front (x ∷ xs) [] more others none nor same =
    let head : x ≡ act.Turn = cc in
    let here : turns_by (act.Turn ∷ xs) ≡ 0 = subst (λ (a : Act). turns_by (a ∷ xs) ≡ 0) head none in
    absurd (omega (arith, here))
same_front (x ∷ xs) (y ∷ ys) more others none nor same =
    let head : x ≡ y = cc in
    let tail : xs ++ act.Turn ∷ more ≡ ys ++ act.Turn ∷ others = cc in
    let one = turns_then (x ∷ []) xs in
    let other = turns_then (y ∷ []) ys in
    let first : turns_by xs ≡ 0 = omega (arith, none, one) in
    let second : turns_by ys ≡ 0 = omega (arith, nor, other) in
    ap (λ (a : Act). a ∷ xs) head ∙ ap (λ (l : List Act). y ∷ l) (same_front xs ys more others first second tail)

module _ (seed : ℕ) (net : MemNetState) (follows : FollowsSchedule net) (acts_are : net.acts ≡ made_acts seed) (rested : net.rested ≡ true)
    (ns : List NoteValue) (marked : gather marks_by ns ≡ flat_map marks_of (net_state net).passed) (one : number_of is_turn ns ≡ 1) where
  -- the turns that passed are those of the acts that were done, and one for each Stop
  passed_turns : number_of is_turn_mark (flat_map marks_of (passes (take net.done net.acts) ++ replicate (net.answers - length (passes (take net.done net.acts))) event.Stop)) ≡ 1
  passed_turns = sym (ap (number_of is_turn_mark) marked) ∙ sym (turns_marked ns) ∙ one

  few_turns : turns_by (take net.done net.acts) ≤ 1
  few_turns =
      let stops = replicate (net.answers - length (passes (take net.done net.acts))) event.Stop in
      let sum = sym (number_then is_turn_mark (flat_map marks_of (passes (take net.done net.acts))) (flat_map marks_of stops)) ∙ ap (number_of is_turn_mark) (sym (flat_map-append marks_of (passes (take net.done net.acts)) stops)) ∙ passed_turns in
      omega (arith, sum)

  -- acts are left
  pub acts_left : net.done < length net.acts
  acts_left = elim (eq-or-lt_of_le follows.done) [
    | inl all ↦
        let whole : turns_by (take net.done net.acts) ≡ 501 = ap turns_by (ap (λ k. take k net.acts) all ∙ take-length net.acts ∙ acts_are) ∙ made_turns seed in
        absurd (let few = few_turns in omega (arith, few, whole))
    | inr less ↦ less
  ]

  -- those that were done are the openings, and a Turn
  pub first_acts : take net.done net.acts ≡ openings 64 ++ act.Turn ∷ []
  first_acts =
      let (front, ends) = follows.turned rested acts_left in
      let sum = sym (turns_then front (act.Turn ∷ [])) ∙ ap turns_by (sym ends) in
      let none : turns_by front ≡ 0 = (let few = few_turns in omega (arith, sum, few)) in
      let parts : front ++ act.Turn ∷ drop net.done net.acts ≡ openings 64 ++ act.Turn ∷ rounds 500 seed =
      sym (append_assoc front (act.Turn ∷ []) (drop net.done net.acts)) ∙ ap (λ (l : List Act). l ++ drop net.done net.acts) (sym ends) ∙ take-append-drop net.done net.acts ∙ acts_are in
      ends ∙ ap (λ (l : List Act). l ++ act.Turn ∷ []) (same_front front (openings 64) (drop net.done net.acts) (rounds 500 seed) none (openings_turns 64) parts)

  -- and nothing else passed
  pub first_passed : (net_state net).passed ≡ passes (take net.done net.acts)
  first_passed =
      let count : net.answers - length (passes (take net.done net.acts)) ≡ 0 = (let all = follows.stops acts_left in omega (arith, all)) in
      ap (λ (k : ℕ). passes (take net.done net.acts) ++ replicate k event.Stop) count ∙ append-nil (passes (take net.done net.acts))
