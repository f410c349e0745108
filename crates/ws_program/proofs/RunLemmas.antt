-- What a run over a net in memory comes to, by what the loop says of it.
use Rattle.ws_program.proofs.Below.{◌≡◌, ◌<◌, ◌≤◌, ◌+◌, ◌-◌, ◌^◌, ℕ, List, [], ◌∷◌, ◌++◌, Option, Some, None, Bool, true, false, cond, nat_eq, map, length, refl, sym, ap, ◌∙◌, subst, arith, count_by, length-append, ConfigValue, NoteValue, RecorderState, told_by, NetEvent, Act, passes, arrivals, sent, new_link, MemNetState, FollowsSchedule, net_state, start_net, link_of, RouteTable, AreReplies, HubState, server, IsTable, table_of, Settled, AreThere, backlog_at, there_first, intake_at, Intakes, kept_at_first, Runs, Beginning, IsRight, IsSettled, IsLivedThroughout, EndsWithTurn, AreFew, KeptAll, AreViews, no_view, IntakeView, AreNotes, IsReplayed, IsRunOf, CountsItems, AreLinks, links_of, is_gone_phase, phase, plain, numbered_at, by_cases, append-nil, away_by_gone, there_by_phase, accepted_known, is_turn_act, CanRun, HasRun, routes_of_bus, bus_server, BetweenTurns, IsBetweenTurns, at_first}
use Rattle.hub_lines.specs.State.{Server, pending_at}
use Rattle.hub_notes.specs.Progress.{Progress}
use Rattle.link_trait.specs.declared.net.NetEvent.TheVariants as event
use Rattle.loop_runner.specs.declared.turns.Ran.TheVariants as ran
use Rattle.ws_program.proofs.FewLemmas.{few_items}
use Rattle.ws_program.proofs.StopLemmas.{passes_few}
use Rattle.ws_program.proofs.EndLemmas.{ran_stopped, ran_never_spent, ran_never_failed}
use Rattle.ws_program.proofs.ReplayedLemmas.{replay_all}
pub use Rattle.ws_program.specs.BusServer.{bus_beginning}

-- there is no intake yet
abbrev pub no_views : ℕ → IntakeView
no_views _ = no_view

-- ---- before the first turn

idle_link : (acts : List Act) (numbers : List ℕ) (conn : ℕ) → (link_of numbers (map (λ c. new_link (sent c acts)) numbers) conn).live ≡ false
idle_link acts [] conn = refl
idle_link acts (number ∷ numbers) conn = one (nat_eq number conn) (idle_link acts numbers conn)
  where
    one : (b : Bool) → (link_of numbers (map (λ c. new_link (sent c acts)) numbers) conn).live ≡ false
        → (cond b (new_link (sent number acts)) (link_of numbers (map (λ c. new_link (sent c acts)) numbers) conn)).live ≡ false
    one true rest = refl
    one false rest = rest

pub there_at_first : (acts : List Act) (hub : HubState) (start : MemNetState) (told : Option (List NoteValue)) → start ≡ start_net acts → AreThere (server hub (net_state start) told)
there_at_first acts hub start told begins =
    there_first (server hub (net_state start) told) (λ conn. ap (λ (n : MemNetState). (net_state n).live conn) begins ∙ idle_link acts (arrivals acts) conn)

pub views_at_first : (intakes : Intakes) → ((conn : ℕ) → intake_at intakes conn ≡ None) → AreViews intakes no_views
views_at_first intakes none conn intake there = absurd (let z : None ≡ Some intake = sym (none conn) ∙ there in cc)

pub kept_first : (admits : List ℕ → Bool) (f : ConfigValue) (acts : List Act) (table : RouteTable) (hub : HubState) (start : MemNetState) (recorder : RecorderState)
    → hub.config ≡ f → hub.entries ≡ [] → hub.pairs ≡ [] → hub.partings ≡ [] → hub.tellings ≡ [] → IsTable (table_of hub) → start ≡ start_net acts → recorder ≡ record { notes = []; whole = true }
    → KeptAll (bus_beginning admits f table) (server hub (net_state start) (told_by recorder)) tt no_views None
kept_first admits f acts table hub start recorder configured entries pairs partings tellings whole begins empty =
    kept_at_first (bus_beginning admits f table) (server hub (net_state start) (told_by recorder)) tt no_views entries pairs partings tellings configured whole
    (ap told_by empty) (ap (λ (n : MemNetState). (net_state n).passed) begins) refl

pub between_none : (told : Option (List NoteValue)) → told ≡ Some [] → IsBetweenTurns told
between_none told empty notes is =
    let none : [] ≡ notes = let z : Some [] ≡ Some notes = sym empty ∙ is in cc in
    subst BetweenTurns none at_first

pub between_first : (recorder : RecorderState) → recorder ≡ record { notes = []; whole = true } → IsBetweenTurns (told_by recorder)
between_first recorder empty = between_none (told_by recorder) (ap told_by empty)

-- ---- after the last

-- it is kept, for some views of the intakes
abbrev pub IsKeptLast : Beginning (Unit {0}) → Server → Type 0
IsKeptLast b s = (views : ℕ → IntakeView) × KeptAll b s tt views None

-- so the hub counted the items that the notes tell of
pub items_counted : (admits : List ℕ → Bool) (replies : ℕ → List ℕ) (f : ConfigValue) (ns : List NoteValue) (s : Server) → IsKeptLast (bus_beginning admits f routes_of_bus) s → Settled s.hub → s.told ≡ Some ns
    → s.net.tells ≡ true → AreReplies routes_of_bus ns s.net.given replies → AreFew (bus_server admits replies) ns → CountsItems (bus_server admits replies) ns s.hub
items_counted admits replies f ns s (views, kept) settled told tells agree few c accepted =
    let line = (kept.holds ns told tells replies agree few).kept.agrees.lines c in
    let shown = ap (λ (z : Progress). z.phase) line.progress in
    by_cases (is_gone_phase (phase (bus_server admits replies) ns c))
    (λ gone. ap (λ b. cond b (numbered_at s.hub c) 0) (away_by_gone s.hub c (phase (bus_server admits replies) ns c) shown gone) ∙ sym (ap (λ b. cond b 0 (length (plain (bus_server admits replies) ns c))) gone))
    (λ stays.
    let there = there_by_phase s.hub c (phase (bus_server admits replies) ns c) shown (accepted_known (bus_server admits replies) c ns accepted) stays in
    ap (λ b. cond b (numbered_at s.hub c) 0) there
    ∙ all_put (numbered_at s.hub c) (pending_at s.hub c) (length (plain (bus_server admits replies) ns c)) (settled.pending c) (line.count there (few ns [] (sym (append-nil ns)) c))
    ∙ sym (ap (λ b. cond b 0 (length (plain (bus_server admits replies) ns c))) stays))
  where
    all_put : (n : ℕ) (waiting : List (List ℕ)) (count : ℕ) → waiting ≡ [] → n + length waiting ≡ count → n ≡ count
    all_put n waiting count none sum = let empty : length waiting ≡ 0 = ap length none in omega arith

module _ (f : ConfigValue) (acts : List Act) (hub : HubState) (net : MemNetState) (r : RecorderState) (start : MemNetState) (begins : start ≡ start_net acts) (can : CanRun acts)
    (follows : FollowsSchedule net) (same : (net_state net).schedule ≡ (net_state start).schedule) (turns : ℕ) where
  acts_are : net.acts ≡ acts
  acts_are = let z : Some net.acts ≡ Some acts = same ∙ ap (λ (n : MemNetState). Some n.acts) begins in cc

  nothing_passed : (net_state start).passed ≡ []
  nothing_passed = ap (λ (n : MemNetState). (net_state n).passed) begins

  few_acts : length net.acts + 1 < 2 ^ 64 - 1
  few_acts = few (length net.acts) (length acts) (ap (λ (xs : List Act). length xs) acts_are) can.few
    where
      few : (n m : ℕ) → n ≡ m → m ≤ 1048576 → n + 1 < 2 ^ 64 - 1
      few n m same most = omega arith

  pub never_spent : count_by is_turn_act acts < turns → Runs ran.Spent turns (net_state start) (net_state net) → ⊥
  never_spent more runs = ran_never_spent net follows few_acts (net_state start) turns refl nothing_passed (subst (λ (xs : List Act). count_by is_turn_act xs < turns) (sym acts_are) more) runs

  pub never_failed : Runs ran.NetFault turns (net_state start) (net_state net) → ⊥
  never_failed runs = ran_never_failed net follows few_acts (net_state start) turns refl nothing_passed runs

  module _ (count : ℕ) (runs : Runs (ran.Stopped count) turns (net_state start) (net_state net)) where
    ended : (net.done ≡ length net.acts) × ((net_state net).passed ≡ passes net.acts ++ event.Stop ∷ [])
    ended = ran_stopped net follows few_acts (net_state start) turns refl nothing_passed count runs

    pub few_passed : length (net_state net).passed < 2 ^ 64 - 1
    few_passed =
        let all : length (net_state net).passed ≡ length (passes net.acts) + 1 = ap (λ (es : List NetEvent). length es) ended.1 ∙ length-append (passes net.acts) (event.Stop ∷ []) in
        few (length (net_state net).passed) (length (passes net.acts)) (length net.acts) all (passes_few net.acts) few_acts
      where
        few : (p q n : ℕ) → p ≡ q + 1 → q ≤ n → n + 1 < 2 ^ 64 - 1 → p < 2 ^ 64 - 1
        few p q n all most room = omega arith

    pub has_run : (admits : List ℕ → Bool) → Settled hub → r.whole ≡ true → net.whole ≡ true → length r.notes < 2 ^ 64 → EndsWithTurn (told_by r)
        → IsRight (bus_beginning admits f routes_of_bus) (server hub (net_state net) (told_by r)) tt
        → IsSettled (bus_beginning admits f routes_of_bus) (server hub (net_state net) (told_by r)) → IsLivedThroughout (bus_beginning admits f routes_of_bus) (server hub (net_state net) (told_by r))
        → IsKeptLast (bus_beginning admits f routes_of_bus) (server hub (net_state net) (told_by r))
        → AreNotes r.notes → AreLinks (links_of (backlog_at hub) (net_state net).taken r.notes) → HasRun admits f acts hub net r
    has_run admits settled kept whole short last right rests lived last_kept notes links = record {
      settled = settled;
      is = all;
      counts = λ replies agree. items_counted admits replies f r.notes (server hub (net_state net) (told_by r)) last_kept settled told refl agree (few replies);
    }
      where
        told : told_by r ≡ Some r.notes
        told = ap (λ b. cond b (Some r.notes) None) kept

        few : (replies : ℕ → List ℕ) → AreFew (bus_server admits replies) r.notes
        few replies front behind split d = let ends = last r.notes told in few_items admits replies r.notes front behind ends.0 ends.1 short split d

        replayed : (replies : ℕ → List ℕ) → AreReplies routes_of_bus r.notes (net_state net).given replies → IsReplayed admits f routes_of_bus acts r.notes (net_state net) (backlog_at hub) replies
        replayed replies agree =
            subst (λ (xs : List Act). IsReplayed admits f routes_of_bus xs r.notes (net_state net) (backlog_at hub) replies) acts_are
            (replay_all admits f routes_of_bus r.notes net (backlog_at hub) replies (right.right r.notes told refl replies agree (few replies)) follows whole ended.0 (rests r.notes told refl replies agree (few replies)) (lived r.notes told refl replies agree (few replies)))

        all : IsRunOf admits f routes_of_bus acts r.notes net (backlog_at hub)
        all = record {
          notes_in_range = notes;
          links_in_range = links;
          whole = whole;
          acts_are = acts_are;
          follows = follows;
          used = ended.0 ∙ ap (λ (xs : List Act). length xs) acts_are;
          passed = ended.1 ∙ ap (λ (xs : List Act). passes xs ++ event.Stop ∷ []) acts_are;
          texts = right.texts r.notes told refl few;
          run = replayed;
        }
