-- A run over a net in memory whose first turn is made by itself.
use Rattle.ws_program.proofs.Below.{◌≡◌, ◌<◌, ◌≤◌, ◌+◌, ◌-◌, ◌^◌, ℕ, List, [], ◌∷◌, ◌++◌, Some, None, Bool, true, cond, length, take, refl, AreFew, sym, ap, ◌∙◌, subst, arith, count_by, length-take-le, NoteValue, NetEvent, Act, passes, MemNetState, FollowsSchedule, net_state, start_net, number_of, is_turn_act, bus_server, made_acts, HubState, server, told_by, RecorderState, backlog_at, Runs, IsRight, IsSettled, RouteTable}
use Rattle.ws_kinds.specs.ConfigValue.{usual_config}
use Rattle.link_trait.specs.declared.act.Act.TheVariants as act
use Rattle.mem_net.specs.Schedule.{is_sound}
use Rattle.made_schedule.specs.Made.{openings, rounds}
use Rattle.made_life.specs.Turn.{FirstTurn}
use Rattle.hub_notes.proofs.NetLemmas.{number_then}
use Rattle.run_meaning.specs.Notes.{is_turn}
use Rattle.loop_runner.specs.Steps.{Grows, NotesTurns}
use Rattle.loop_runner.specs.declared.turns.Ran.TheVariants as ran
use Rattle.ws_program.specs.Begun.{HasBegun, Memory, can_begin, server_of}
use Rattle.ws_program.specs.BusServer.{bus_beginning}
use Rattle.ws_program.proofs.EndLemmas.{ran_count, ran_spent, turns_counted}
use Rattle.ws_program.proofs.FewLemmas.{few_items}
use Rattle.ws_program.proofs.MadeLemmas.{made_can_run}
use Rattle.ws_program.proofs.StopLemmas.{passes_few}

-- the acts of a made schedule end turns
pub made_can_begin : (seed : ℕ) (acts : List Act) → acts ≡ made_acts seed → is_sound acts ≡ true → length acts ≡ 8629 → can_begin acts
made_can_begin seed acts made sound count = (made_can_run acts sound count, some)
  where
    some : 1 ≤ count_by is_turn_act acts
    some =
        let parts = number_then is_turn_act (openings 64) (act.Turn ∷ rounds 500 seed) in
        let all : count_by is_turn_act acts ≡ number_of is_turn_act (openings 64 ++ act.Turn ∷ rounds 500 seed) = sym (turns_counted acts) ∙ ap (λ (l : List Act). number_of is_turn_act l) made in
        omega (arith, parts, all)

-- ---- behind the first turn

module _ (acts : List Act) (net : MemNetState) (follows : FollowsSchedule net) (acts_are : net.acts ≡ acts) (can : can_begin acts) where
  few_acts : length net.acts + 1 < 2 ^ 64 - 1
  few_acts = few (length net.acts) (length acts) (ap (λ (xs : List Act). length xs) acts_are) can.0.few
    where
      few : (n m : ℕ) → n ≡ m → m ≤ 1048576 → n + 1 < 2 ^ 64 - 1
      few n m same most = omega (arith, same, most)

  -- few answers passed
  pub first_few : (start : MemNetState) → start ≡ start_net acts → Runs ran.Spent 1 (net_state start) (net_state net) → length (net_state net).passed < 2 ^ 64 - 1
  first_few start begins runs =
      let shown = ran_spent net follows few_acts (net_state start) 1 refl (ap (λ (n : MemNetState). (net_state n).passed) begins) runs in
      let most = passes_few (take net.done net.acts) in
      let size : length (take net.done net.acts) ≡ net.done = length-take-le net.done net.acts follows.done in
      few (length (net_state net).passed) (length (passes (take net.done net.acts))) (length (take net.done net.acts)) net.done (length net.acts) (ap (λ (es : List NetEvent). length es) shown) most size follows.done few_acts
    where
      few : (p q t d n : ℕ) → p ≡ q → q ≤ t → t ≡ d → d ≤ n → n + 1 < 2 ^ 64 - 1 → p < 2 ^ 64 - 1
      few p q t d n same most size done room = omega (arith, same, most, size, done, room)

  -- it was not the last turn
  pub not_stopped : (start : MemNetState) → start ≡ start_net acts → (count : ℕ) → Runs (ran.Stopped count) 1 (net_state start) (net_state net) → ⊥
  not_stopped start begins count runs =
      let all = ran_count net follows few_acts (net_state start) 1 refl (ap (λ (n : MemNetState). (net_state n).passed) begins) count runs in
      let one = runs.1 in
      more (count_by is_turn_act net.acts) (count_by is_turn_act acts) count (ap (λ (xs : List Act). count_by is_turn_act xs) acts_are) can.1 one all
    where
      more : (m n c : ℕ) → m ≡ n → 1 ≤ n → c ≤ 1 → c ≡ m + 1 → ⊥
      more m n c same some one all = absurd (omega (arith, same, some, one, all))

told_whole : (r : RecorderState) → r.whole ≡ true → told_by r ≡ Some r.notes
told_whole r whole = ap (λ b. cond b (Some r.notes) None) whole

some_same : {A : Type 0} (x y : A) → Some x ≡ Some y → x ≡ y
some_same x y e = cc

-- one turn was noted
pub one_turn : (old new : RecorderState) → old ≡ record { notes = []; whole = true } → new.whole ≡ true → NotesTurns 1 (told_by old) (told_by new) → number_of is_turn new.notes ≡ 1
one_turn old new empty whole noted =
    let n = noted new.notes (told_whole new whole) in
    let before : [] ≡ n.0 = some_same [] n.0 (sym (ap told_by empty) ∙ n.1) in
    n.2 ∙ ap (λ (l : List NoteValue). number_of is_turn l + 1) (sym before)

-- ---- the first turn of a made schedule

module _ (admits : List ℕ → Bool) (m : Memory) (begun : HasBegun admits m) (hub : HubState) (net : MemNetState) (r : RecorderState) (whole : r.whole ≡ true) (grows : Grows (server_of m) (server hub (net_state net) (told_by r))) where
  few : (replies : ℕ → List ℕ) → AreFew (bus_server admits replies) m.watch.notes
  few replies front behind split d =
      let ends = begun.behind.last m.watch.notes (told_whole m.watch begun.whole) in
      few_items admits replies m.watch.notes front behind ends.0 ends.1 begun.few split d

  pub first_of : (seed : ℕ) → m.net.acts ≡ made_acts seed → FirstTurn (bus_server admits) tt seed r.notes (net_state net).given
  first_of seed made =
      let n = grows.told r.notes (told_whole r whole) in
      let same : n.0 ≡ m.watch.notes = some_same n.0 m.watch.notes (sym n.2 ∙ told_whole m.watch begun.whole) in
      record {
        before = m.watch.notes;
        later = n.1;
        split = n.3 ∙ ap (λ (l : List NoteValue). l ++ n.1) same;
        net = m.net;
        follows = begun.follows;
        acts_are = made;
        one = begun.one;
        grew = grows.given refl;
        held = backlog_at m.hub;
        right = λ replies agree.
            let right = subst (λ (t : RouteTable). IsRight (bus_beginning admits usual_config t) (server_of m) (tt {0})) begun.of_bus begun.behind.right in
            let settled = subst (λ (t : RouteTable). IsSettled (bus_beginning admits usual_config t) (server_of m)) begun.of_bus begun.behind.settled in
            record {
              right = right.right m.watch.notes (told_whole m.watch begun.whole) refl replies agree (few replies);
              settled = settled m.watch.notes (told_whole m.watch begun.whole) refl replies agree (few replies);
            };
      }
