-- What a run of a new server comes to, over whatever net and watch.
use Rattle.ws_program.proofs.Below.{◌≡◌, ◌<◌, ◌≤◌, ◌-◌, ◌^◌, ℕ, List, [], ◌++◌, Option, Some, None, Bool, true, false, not, cond, inl, inr, length, refl, ◌∙◌, subst, arith, ConfigValue, NoteValue, NetEvent, GrowsBy, Phase, Head, Open, Leaving, Ending, Gone, is_gone, entry_at, HubState, server, IsTable, table_of, backlog_at, IsRight, IsSettled, IsLivedThroughout, EndsWithTurn, AreFew, KeptAll, IntakeView, routes_of_bus, bus_server}
use Rattle.hub_lines.specs.State.{most_held, most_held_in}
use Rattle.link_trait.specs.Net.{Listens}
use Rattle.link_trait.specs.declared.net.Listening.TheVariants as listening
use Rattle.loop_runner.specs.Steps.{NotesTurns}
use Rattle.loop_runner.specs.Turns.{Passes}
use Rattle.loop_runner.specs.declared.turns.Ran.TheVariants as ran
use Rattle.ws_program.specs.declared.status.Status.{Status}
use Rattle.ws_program.specs.declared.status.Status.TheVariants.{Done, NetFault, OutOfMemory, ReadFault, Refused, Usage, WriteFault}
use Rattle.ws_program.specs.Serve.{Scene, ServeEnds, WritesServed, Service, Outer, AreNotesOf, IsUnused, IsRightRun, ServesTurns, FailsInTurn, RunsNew}
use Rattle.loop_runner.proofs.TurnLemmas.{rose_before}
use Rattle.ws_program.proofs.FewLemmas.{few_items}
use Rattle.ws_program.proofs.RunLemmas.{bus_beginning}

-- ---- what is held has a bound

most_at : (f : ConfigValue) (phase : Phase) → most_held_in f phase ≤ most_held f
most_at f Head = omega arith
most_at f Open = omega arith
most_at f Leaving = omega arith
most_at f Ending = omega arith
most_at f Gone = omega arith

backlog_bound : (h : HubState) → IsTable (table_of h) → (conn : ℕ) → length (backlog_at h conn) ≤ most_held h.config
backlog_bound h table conn = one (not (is_gone (entry_at h conn).phase))
  where
    ring : length (entry_at h conn).ring ≤ most_held h.config
    ring = let first = table.bound conn in let second = most_at h.config (entry_at h conn).phase in omega (arith, first, second)

    one : (b : Bool) → length (cond b (entry_at h conn).ring []) ≤ most_held h.config
    one true = ring
    one false = omega arith

-- ---- a run of the loop

module _ (admits : List ℕ → Bool) (f : ConfigValue) (h : HubState) (new : Outer) where
  pub notes_of_run : new.net.tells ≡ true → EndsWithTurn new.told → IsRight (bus_beginning admits f routes_of_bus) (server h new.net new.told) tt
      → IsSettled (bus_beginning admits f routes_of_bus) (server h new.net new.told) → IsLivedThroughout (bus_beginning admits f routes_of_bus) (server h new.net new.told)
      → (views : ℕ → IntakeView) → KeptAll (bus_beginning admits f routes_of_bus) (server h new.net new.told) tt views None
      → (notes : List NoteValue) → new.told ≡ Some notes → length notes < 2 ^ 64 - 1 → AreNotesOf admits f notes new.net
  notes_of_run tells last right settled lived views kept notes told short = record {
    held = backlog_at h;
    texts = right.texts notes told tells few;
    run = λ replies agree. record {
      right = right.right notes told tells replies agree (few replies);
      settled = settled notes told tells replies agree (few replies);
      throughout = lived notes told tells replies agree (few replies);
      bounded = λ conn.
          let holds = kept.holds notes told tells replies agree (few replies) in
          subst (λ (g : ConfigValue). length (backlog_at h conn) ≤ most_held g) holds.kept.configured (backlog_bound h holds.whole conn);
    };
  }
    where
      few : (replies : ℕ → List ℕ) → AreFew (bus_server admits replies) notes
      few replies front behind split d =
          let ends = last notes told in
          let least : length notes < 2 ^ 64 = omega (arith, short) in
          few_items admits replies notes front behind ends.0 ends.1 least split d

-- ---- after the net listened

module _ (admits : List ℕ → Bool) (asked : Service) (old mid new : Outer) (told : mid.told ≡ old.told) (listens : Listens asked.port listening.Ready old.net mid.net) where
  still_unused : IsUnused old → IsUnused mid
  still_unused u = record {
    tells = listens.net.tells ∙ u.tells;
    none = (listens.told u.tells).passed ∙ u.none;
    quiet = λ c. listens.links.live c ∙ u.quiet c;
    unnoted = told ∙ u.unnoted;
  }

  serves_from : IsRightRun admits asked.config mid new → IsRightRun admits asked.config old new
  serves_from serves u = serves (still_unused u)

  passes_from : (P : List NetEvent → Type 0) (last : List NetEvent) → Passes P last mid.net new.net → Passes P last old.net new.net
  passes_from P last p = record {
    tells = p.tells ∙ listens.net.tells;
    told = λ t.
        let q = p.told (listens.net.tells ∙ t) in
        (q.0, q.1, subst (λ (z : List NetEvent). GrowsBy (q.0 ++ last) z new.net.passed) (listens.told t).passed q.2);
    faults = let first = listens.answer.1 in let second = p.faults in omega (arith, first, second);
  }

  noted_from : (count : ℕ) → NotesTurns count mid.told new.told → NotesTurns count old.told new.told
  noted_from count noted = subst (λ (z : Option (List NoteValue)). NotesTurns count z new.told) told noted

  pub makes_stopped : (made : ℕ) → RunsNew admits asked.config (ran.Stopped made) asked.turns mid new → ServesTurns admits asked made old new
  makes_stopped made x = record {
    port = x.port ∙ listens.answer.0;
    ends = inr (x.runs.0, x.runs.1, passes_from _ _ x.runs.2);
    noted = noted_from made x.noted;
    serves = serves_from x.serves;
  }

  pub makes_spent : RunsNew admits asked.config ran.Spent asked.turns mid new → ServesTurns admits asked asked.turns old new
  makes_spent x = record {
    port = x.port ∙ listens.answer.0;
    ends = inl (refl, passes_from _ _ x.runs);
    noted = noted_from asked.turns x.noted;
    serves = serves_from x.serves;
  }

  pub fails_in_turn : RunsNew admits asked.config ran.NetFault asked.turns mid new → FailsInTurn admits asked old new
  fails_in_turn x = record {
    before = x.runs.0;
    port = x.port ∙ listens.answer.0;
    fewer = x.runs.1;
    ends = passes_from _ _ x.runs.2;
    serves = serves_from x.serves;
    rose = rose_before old.net.faults mid.net.faults new.net.faults listens.answer.1 x.runs.3;
  }

-- ---- what is written

pub ends_written : (admits : List ℕ → Bool) (asked : Service) (made : ℕ) (status : Status) (old new : Scene) → ServesTurns admits asked made old.out new.out
    → WritesServed made status old.written new.written old.write_faults new.write_faults → ServeEnds admits asked status old new
ends_written admits asked made Done old new makes writes = (made, makes, writes)
ends_written admits asked made WriteFault old new makes writes = (made, makes, writes)
ends_written admits asked made Usage old new makes writes = absurd writes
ends_written admits asked made (Refused line fault) old new makes writes = absurd writes
ends_written admits asked made ReadFault old new makes writes = absurd writes
ends_written admits asked made NetFault old new makes writes = absurd writes
ends_written admits asked made OutOfMemory old new makes writes = absurd writes
