-- One event of the net, one turn, and turn after turn: what is kept, and what holds then.
use Rattle.loop_runner.proofs.Below.{List, Bool, ◌∷◌, [], ◌≡◌, ◌<◌, ◌≤◌, ◌+◌, ◌-◌, ◌^◌, ℕ, length, inl, Some, None, true, sym, ◌∙◌, arith, list_all, HandlerMeaning, NetState, Nexts, passing, NetEvent, RouteTable, due_at, AreThere, rest_links, Intakes, Turned, Ran, IsRight, IsSettled, beginning, IsBetweenTurns, IsSettledIfTold, Moment, with_net, IsKeptThen, Keeps, KeepsOn, Ready, Grows, Onward, NotesTurns, RisesBeyond, is_between, ending, PassesBetween, Runs, RunFailsAs, NotesRun, WhereKept, TakesEvent, EndsEvents, MakesTurn, MakesTurns, MakesRun, TellsAll, pass_lasts}
use Rattle.loop_runner.proofs.GrowLemmas.{grows_next, grows_then, grows_same}
use Rattle.loop_runner.proofs.KeepLemmas.{where_told}
use Rattle.loop_runner.proofs.NotedLemmas.{links_both, links_still, turns_both, turns_same}
use Rattle.loop_runner.proofs.RightLemmas.{right_after, settled_told}
use Rattle.loop_runner.proofs.TellingLemmas.{ended_between, told_in_turn}
use Rattle.loop_runner.proofs.StepLemmas.{onward_then}
use Rattle.loop_runner.proofs.ThroughoutLemmas.{ending_rest, lived_after}
use Rattle.loop_runner.proofs.TurnKeeps.{few_before, few_onward, few_passes}
use Rattle.loop_runner.proofs.TurnLemmas.{fails_ended, fails_then, passes_ended, passes_next, passes_onward, passes_then, passes_turn, there_next, links_next}

module _ {H : Type 0} {handler : HandlerMeaning H} (admits : List ℕ → Bool) (table : RouteTable) where
  -- ---- one event

  -- an event that ended no turn, and then the Closed events that were due
  pub event_between : (answer : NetEvent) (net : NetState) (before mid after : Intakes) (a s d : Moment handler) → Nexts answer net a.server.net → list_all is_between (passing answer) ≡ true → a.server.net.room < net.room
      → Onward 0 0 a.server s.server → (length net.passed < 2 ^ 64 - 1 → Keeps admits table before mid (with_net net a) s) → (AreThere (with_net net a).server → AreThere s.server)
      → KeepsOn admits mid after s d → ((c : ℕ) → due_at d.server.hub c ≡ None) → TakesEvent admits table None before after (with_net net a) d
  event_between answer net before mid after a s d next between fell first keep there close none =
      let onward = onward_then a.server s.server d.server first close.steps.onward in
      record {
        between = record {
          running = close.running;
          none = none;
          fell = let least = onward.room in omega arith;
          passed = passes_then net a.server.net d.server.net (passes_next answer net a.server.net next between) (passes_onward a.server d.server onward);
          turns = onward.turns;
        };
        ended = tt {0};
        grows = grows_then (with_net net a).server a.server d.server (grows_next answer a.server.hub net a.server.net a.server.told next) onward.grows;
        links = links_both 0 0 0 0 (with_net net a).server a.server d.server (links_next answer a.server.hub net a.server.net a.server.told next) onward.links onward.faults;
        there = λ t. close.steps.there (there t);
        told = λ start t. pass_lasts 0 start a.server d.server t onward.telling;
        kept = λ start config views few are k. where_told (beginning handler admits start config table) net after d views (onward.grows.tells ∙ next.net.tells) (λ told.
            let x = keep (few_before answer net a.server.net next told (few_onward a.server d.server onward (next.net.tells ∙ told) few)) start config views are k in
            close.kept table start config x.0 x.1 x.2);
        settled = tt {0};
      }

  -- an event that ended the turn
  pub event_ended : (end : Turned) (net : NetState) (before after : Intakes) (a d : Moment handler) → Nexts (ending end) net a.server.net → EndsEvents before after a d → TakesEvent admits table (Some end) before after (with_net net a) d
  event_ended end net before after a d next x =
      let links = rest_links (ending end) net a.server.net (ending_rest end) next.event in
      let onward = x.steps.onward in
      let same = onward.grows.tells ∙ next.net.tells in
      let few : net.tells ≡ true → length d.server.net.passed < 2 ^ 64 - 1 → length net.passed < 2 ^ 64 - 1 = λ told few. few_before (ending end) net a.server.net next told (few_onward a.server d.server onward (next.net.tells ∙ told) few) in
      record {
        between = tt {0};
        ended = record {
          ready = x.ready;
          passed = passes_ended end a.server.hub net a.server.net a.server.told d.server next onward;
          failed = fails_ended end a.server.hub net a.server.net a.server.told d.server next onward;
          turns = onward.turns;
          last = x.last;
        };
        grows = grows_then (with_net net a).server a.server d.server (grows_next (ending end) a.server.hub net a.server.net a.server.told next) onward.grows;
        links = links_both 0 0 0 0 (with_net net a).server a.server d.server (links_next (ending end) a.server.hub net a.server.net a.server.told next) onward.links onward.faults;
        there = λ t. x.steps.there (there_next (ending end) a.server.hub net a.server.net a.server.told next links.live t);
        told = λ start t. pass_lasts 1 start a.server d.server t onward.telling;
        kept = λ start config views fewer are k. where_told (beginning handler admits start config table) net after d views same (λ told. x.kept admits table (ending end) (ending_rest end) net next (few told fewer) start config views are k);
        settled = λ start config views fewer are k there. settled_told (beginning handler admits start config table) net d.server same (λ told. x.settled admits table (ending end) (ending_rest end) net next (few told fewer) start config views are k there);
      }

  -- ---- events, one after another

  -- what is kept by events, and by turns, one after another
  pub kept_then : (before mid after : Intakes) (a s d : Moment handler) → d.server.net.tells ≡ s.server.net.tells → (s.server.net.tells ≡ true → length d.server.net.passed < 2 ^ 64 - 1 → length s.server.net.passed < 2 ^ 64 - 1)
      → WhereKept admits table before a s (IsKeptThen mid s) → WhereKept admits table mid s d (IsKeptThen after d) → WhereKept admits table before a d (IsKeptThen after d)
  kept_then before mid after a s d same fewer x y = λ start config views few are k. where_told (beginning handler admits start config table) s.server.net after d views same (λ told.
      let z = x start config views (fewer told few) are k in y start config z.0 few z.1 z.2)

  -- what is settled by the last of them
  pub settled_then : (before mid after : Intakes) (a s d : Moment handler) → d.server.net.tells ≡ s.server.net.tells → (s.server.net.tells ≡ true → length d.server.net.passed < 2 ^ 64 - 1 → length s.server.net.passed < 2 ^ 64 - 1)
      → WhereKept admits table before a s (IsKeptThen mid s) → (AreThere a.server → AreThere s.server) → WhereKept admits table mid s d (λ b. AreThere s.server → IsSettledIfTold b d.server)
      → WhereKept admits table before a d (λ b. AreThere a.server → IsSettledIfTold b d.server)
  settled_then before mid after a s d same fewer x there y = λ start config views few are k t. settled_told (beginning handler admits start config table) s.server.net d.server same (λ told.
      let z = x start config views (fewer told few) are k in y start config z.0 few z.1 z.2 (there t))

  -- what is settled by the last turn
  settled_last : (before mid after : Intakes) (a s d : Moment handler) → d.server.net.tells ≡ s.server.net.tells → (s.server.net.tells ≡ true → length d.server.net.passed < 2 ^ 64 - 1 → length s.server.net.passed < 2 ^ 64 - 1)
      → WhereKept admits table before a s (IsKeptThen mid s) → (AreThere a.server → AreThere s.server) → (IsBetweenTurns a.server.told → IsBetweenTurns s.server.told)
      → WhereKept admits table mid s d (λ b. AreThere s.server → IsBetweenTurns s.server.told → IsSettled b d.server)
      → WhereKept admits table before a d (λ b. AreThere a.server → IsBetweenTurns a.server.told → IsSettled b d.server)
  settled_last before mid after a s d same fewer x there between y = λ start config views few are k t began notes is tells.
      let z = x start config views (fewer (sym same ∙ tells) few) are k in y start config z.0 few z.1 z.2 (there t) (between began) notes is tells

  -- and the run is right where all is settled
  pub right_then : (before after : Intakes) (a d : Moment handler) → WhereKept admits table before a d (IsKeptThen after d) → Ready after d.server → WhereKept admits table before a d (λ b. IsRight b d.server d.now)
  right_then before after a d kept ready = λ start config views few are k.
      let x = kept start config views few are k in right_after (beginning handler admits start config table) d.server d.now x.0 x.2 ready.settled

  -- a turn, by its events and the last of them
  pub turn_made : (end : Turned) (before mid after : Intakes) (a s d : Moment handler) → PassesBetween a.server.net s.server.net → NotesTurns 0 a.server.told s.server.told → RisesBeyond 0 0 a.server s.server → Grows a.server s.server → (AreThere a.server → AreThere s.server)
      → TellsAll a.server s.server → WhereKept admits table before a s (IsKeptThen mid s) → TakesEvent admits table (Some end) mid after s d → MakesTurn admits table end before after a d
  turn_made end before mid after a s d between turns links grown there told kept x =
      let fewer = few_passes (ending end ∷ []) s.server.net d.server.net x.ended.passed in
      let grows = grows_then a.server s.server d.server grown x.grows in
      let passed = passes_turn end a.server.net s.server.net d.server.net between x.ended.passed in
      let keeps = kept_then before mid after a s d x.ended.passed.tells fewer kept x.kept in
      let right = right_then before after a d keeps x.ended.ready in
      let turned = turns_both 0 1 a.server.told s.server.told d.server.told turns x.ended.turns in
      record {
        ready = x.ended.ready;
        passed = passed;
        failed = fails_then end a.server s.server d.server between.faults links x.ended.passed.faults x.ended.failed;
        grows = grows;
        links = links_both 0 0 0 0 a.server s.server d.server links x.links x.ended.passed.faults;
        turns = turned;
        kept = keeps;
        right = right;
        there = λ t. x.there (there t);
        settled = λ start config views few are k t began notes is tells replies agree items.
            let b = beginning handler admits start config table in
            settled_then before mid after a s d x.ended.passed.tells fewer kept there x.settled start config views few are k t notes is tells replies agree items
            (told_in_turn b a.server d.server a.now d.now views (keeps start config views few are k).0 grows turned (x.told a.server told) began k (keeps start config views few are k).2 replies notes is tells agree items);
        last = x.ended.last;
        throughout = λ start config views few are k lived.
            lived_after (beginning handler admits start config table) end a.server d.server a.now d.now views grows passed x.ended.last few k (right start config views few are k) lived;
      }

  -- ---- turn after turn

  pub turns_none : (intakes : Intakes) (m : Moment handler) → Ready intakes m.server → MakesTurns admits table 0 intakes intakes m m
  turns_none intakes m ready = record {
    ready = ready;
    grows = grows_same m.server;
    links = links_still 0 m.server.hub m.server.hub m.server.net m.server.net m.server.told (inl (omega arith));
    turns = turns_same m.server.told;
    kept = λ start config views few are k. (views, are, k);
    there = λ t. t;
    between = λ t. t;
    settled = λ one. absurd (omega (arith, one));
    last = λ one. absurd (omega (arith, one));
    throughout = λ start config views few are k lived. lived;
  }

  pub turns_then : (made : ℕ) (end : Turned) (before mid after : Intakes) (a s d : Moment handler) → MakesTurns admits table made before mid a s → MakesTurn admits table end mid after s d → MakesTurns admits table (made + 1) before after a d
  turns_then made end before mid after a s d x y =
      let fewer = few_passes (ending end ∷ []) s.server.net d.server.net y.passed in
      record {
        ready = y.ready;
        grows = grows_then a.server s.server d.server x.grows y.grows;
        links = links_both 0 0 0 0 a.server s.server d.server x.links y.links y.passed.faults;
        turns = turns_both made 1 a.server.told s.server.told d.server.told x.turns y.turns;
        kept = kept_then before mid after a s d y.passed.tells fewer x.kept y.kept;
        there = λ t. y.there (x.there t);
        between = λ _. ended_between d.server.told y.last;
        settled = λ one. settled_last before mid after a s d y.passed.tells fewer x.kept x.there x.between y.settled;
        last = λ one. y.last;
        throughout = λ start config views few are k lived notes is tells.
            let earlier = fewer (sym y.passed.tells ∙ tells) few in
            let z = x.kept start config views earlier are k in
            y.throughout start config z.0 few z.1 z.2 (x.throughout start config views earlier are k lived) notes is tells;
      }

  -- a run, by the turns that were made
  pub run_made : (end : Ran) (turns made : ℕ) (before after : Intakes) (a d : Moment handler) → (1 ≤ turns → 1 ≤ made) → Runs end turns a.server.net d.server.net → RunFailsAs end a.server d.server → NotesRun end turns a.server.told d.server.told → MakesTurns admits table made before after a d
      → MakesRun admits table end turns before after a d
  run_made end turns made before after a d some runs failed noted x = record {
    ready = x.ready;
    runs = runs;
    failed = failed;
    noted = noted;
    grows = x.grows;
    kept = x.kept;
    right = right_then before after a d x.kept x.ready;
    there = x.there;
    between = x.between;
    settled = λ one. x.settled (some one);
    last = λ one. x.last (some one);
    throughout = x.throughout;
  }
