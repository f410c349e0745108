-- Counts and sums over notes, and the run of a made schedule.
use Rattle.ws_program.proofs.Below.{◌≡◌, ◌<◌, ◌+◌, ℕ, List, [], ◌∷◌, ◌++◌, ◌||◌, Option, Some, None, Bool, true, false, cond, not, length, take, slice_get, refl, sym, ap, ◌∙◌, subst, arith, length-append, list_any, by_cases, clash, Phase, NoteValue, Entry, HubState, has_entry, entry_at, is_gone, is_present, numbered_at, phase_at, none_of, gather, gather-append, accepted_by, number_of, total, next, take_one, append-nil, Act, MemNetState, net_state, RecorderState, backlog_at, bus_server, routes_of_bus, CanRun, IsRunOf, made_acts, count_at, with_link, sums_over, Counts, IsSummary, AreReplies, is_accepted, is_gone_by_in, plain, is_end_of, is_fault_of, over_accepted, PeerEnd, LinkFailed}
use Rattle.std.proofs.Common.{◌*◌, zero, suc, get_or}
use Rattle.ws_kinds.specs.ConfigValue.{usual_config}
use Rattle.link_trait.specs.declared.act.Act.TheVariants as act
use Rattle.mem_net.specs.Schedule.{is_sound}
use Rattle.made_schedule.specs.declared.summary.Summary.{Summary}
use Rattle.made_life.specs.Turn.{RunsMade}
use Rattle.made_life.proofs.Counting.{map-push}
use Rattle.made_life.proofs.Ending.{all_pass}
use Rattle.made_life.proofs.Passing.{is_other, made_alone}
use Rattle.made_life.proofs.Running.{messages_all, none_gone, none_gone_phase, octets_all, same_sums}
use Rattle.made_life.proofs.Turning.{turns_of_run}
use Rattle.made_life.proofs.Unlimited.{all_taken, nothing_dropped}
use Rattle.wire_meaning.specs.Answer.{all_spelled}
use Rattle.hub_notes.proofs.NetLemmas.{number_then}
use Rattle.ws_program.specs.Begun.{HasMade}

-- ---- one more

-- how many pass a test, with one note more
pub count_more : (p : NoteValue → Bool) (ns : List NoteValue) (i : ℕ) (n : NoteValue) → slice_get ns i ≡ Some n → number_of p (take (i + 1) ns) ≡ number_of p (take i ns) + cond (p n) 1 0
count_more p ns i n at = ap (λ k. number_of p (take k ns)) (next i) ∙ ap (number_of p) (take_one i ns n at) ∙ number_then p (take i ns) (n ∷ [])

-- the sum of octets, with one more
sum_next : (xs : List ℕ) (i : ℕ) → i < length xs → total (take (suc i) xs) ≡ total (take i xs) + get_or xs i 0
sum_next [] i below = absurd (omega arith)
sum_next (x ∷ xs) zero below = omega arith
sum_next (x ∷ xs) (suc i) below = let rest = sum_next xs i (omega arith) in omega arith

pub sum_more : (xs : List ℕ) (i : ℕ) → i < length xs → total (take (i + 1) xs) ≡ total (take i xs) + get_or xs i 0
sum_more xs i below = ap (λ k. total (take k xs)) (next i) ∙ sum_next xs i below

sums_push : (items : ℕ → ℕ) (taken : ℕ → List ℕ) (xs : List ℕ) (c : ℕ) → sums_over items taken (xs ++ c ∷ []) ≡ with_link (items c) (taken c) (sums_over items taken xs)
sums_push items taken xs c =
    rw (length-append xs (c ∷ []), map-push items xs c, map-push (λ d. length (taken d)) xs c, map-push (λ d. total (taken d)) xs c) refl

-- the sums over the connections that the notes say were accepted, with one note more that says so, or not
pub sums_more : (items : ℕ → ℕ) (taken : ℕ → List ℕ) (ns : List NoteValue) (i c : ℕ) (n : NoteValue) → slice_get ns i ≡ Some n → accepted_by n ≡ c ∷ []
    → sums_over items taken (gather accepted_by (take (i + 1) ns)) ≡ with_link (items c) (taken c) (sums_over items taken (gather accepted_by (take i ns)))
sums_more items taken ns i c n at one =
    ap (λ k. sums_over items taken (gather accepted_by (take k ns))) (next i)
    ∙ ap (λ zs. sums_over items taken (gather accepted_by zs)) (take_one i ns n at)
    ∙ ap (sums_over items taken) (gather-append accepted_by (take i ns) (n ∷ []) ∙ ap (λ zs. gather accepted_by (take i ns) ++ (zs ++ [])) one)
    ∙ sums_push items taken (gather accepted_by (take i ns)) c

pub sums_still : (items : ℕ → ℕ) (taken : ℕ → List ℕ) (ns : List NoteValue) (i : ℕ) (n : NoteValue) → slice_get ns i ≡ Some n → accepted_by n ≡ []
    → sums_over items taken (gather accepted_by (take (i + 1) ns)) ≡ sums_over items taken (gather accepted_by (take i ns))
sums_still items taken ns i n at none =
    ap (λ k. sums_over items taken (gather accepted_by (take k ns))) (next i)
    ∙ ap (λ zs. sums_over items taken (gather accepted_by zs)) (take_one i ns n at)
    ∙ ap (sums_over items taken) (gather-append accepted_by (take i ns) (n ∷ []) ∙ ap (λ zs. gather accepted_by (take i ns) ++ (zs ++ [])) none ∙ append-nil (gather accepted_by (take i ns)))

-- ---- how many items were put

-- a phase that an entry has, and that is not Gone
abbrev is_phase_there : Option Phase → Bool
is_phase_there None = false
is_phase_there (Some phase) = not (is_gone phase)

present_of : (h : HubState) (c : ℕ) → is_present h c ≡ is_phase_there (phase_at h c)
present_of h c = by_entry (has_entry h.entries c) refl
  where
    by_entry : (b : Bool) → has_entry h.entries c ≡ b → is_present h c ≡ is_phase_there (cond b (Some (entry_at h c).phase) None)
    by_entry true there = refl
    by_entry false none = ap (λ (e : Entry). not (is_gone e.phase)) (none_of h.entries c none)

-- the count of a connection in this phase
pub count_in_phase : (h : HubState) (c : ℕ) (p : Option Phase) → phase_at h c ≡ p → count_at h c ≡ cond (is_phase_there p) (numbered_at h c) 0
count_in_phase h c p is = ap (λ b. cond b (numbered_at h c) 0) (present_of h c ∙ ap is_phase_there is)

-- ---- the summary

pub made_can_run : (acts : List Act) → is_sound acts ≡ true → length acts ≡ 8629 → CanRun acts
made_can_run acts sound count = record { sound = sound; few = omega arith }

-- an act of a kind that is not there
any_other : (p : Act → Bool) (acts : List Act) → ((a : Act) → p a ≡ true → is_other a ≡ true) → list_any p acts ≡ true → list_any is_other acts ≡ true
any_other p [] each some = some
any_other p (a ∷ acts) each some = by_cases (p a) (λ here. ap (λ b. b || list_any is_other acts) (each a here)) (λ there.
    let later = any_other p acts each (ap (λ b. b || list_any p acts) (sym there) ∙ some) in
    by_cases (is_other a) (λ yes. ap (λ b. b || list_any is_other acts) yes) (λ no. ap (λ b. b || list_any is_other acts) no ∙ later))

end_other : (c : ℕ) (a : Act) → is_end_of c a ≡ true → is_other a ≡ true
end_other c (act.End d) here = refl
end_other c _ here = clash false refl here

fault_other : (c : ℕ) (a : Act) → is_fault_of c a ≡ true → is_other a ≡ true
fault_other c (act.ReadFails d) here = refl
fault_other c (act.WriteFails d) here = refl
fault_other c _ here = clash false refl here

-- no act of a made schedule is of a kind that it has not
never : (seed : ℕ) (p : Act → Bool) (b : Bool) → ((a : Act) → p a ≡ true → is_other a ≡ true) → (b ≡ true → list_any p (made_acts seed) ≡ true) → b ≡ false
never seed p b each some = by_cases b (λ yes. clash (list_any is_other (made_acts seed)) (made_alone seed) (any_other p (made_acts seed) each (some yes))) (λ no. no)

module _ {admits : List ℕ → Bool} {hub : HubState} {net : MemNetState} {r : RecorderState} (seed : ℕ) (acts : List Act) (made : acts ≡ made_acts seed) where
  module _ (has : HasMade admits acts hub net r) where
    is : IsRunOf admits usual_config routes_of_bus (made_acts seed) r.notes net (backlog_at hub)
    is = subst (λ (xs : List Act). IsRunOf admits usual_config routes_of_bus xs r.notes net (backlog_at hub)) made has.run.is

    runs : (replies : ℕ → List ℕ) → AreReplies routes_of_bus r.notes (net_state net).given replies → RunsMade (bus_server admits replies) tt seed r.notes net (backlog_at hub)
    runs replies agree =
        let run = is.run replies agree in
        record {
          says = λ state event. refl;
          ends = record { right = run.right; settled = run.settled };
          follows = is.follows;
          acts_are = is.acts_are;
          used = is.used ∙ ap (λ (xs : List Act). length xs) (sym is.acts_are);
          passed = is.passed;
          given = run.given;
          unended = λ c there. never seed (is_end_of c) (is_gone_by_in c PeerEnd r.notes) (end_other c) (λ gone. (run.ended c there gone).0);
          unfailed = λ c there. never seed (is_fault_of c) (is_gone_by_in c LinkFailed r.notes) (fault_other c) (run.failed c there);
          short = run.short;
        }

    abbrev some_replies : ℕ → List ℕ
    some_replies = is.texts.0

    agrees : AreReplies routes_of_bus r.notes (net_state net).given some_replies
    agrees = is.texts.1

    abbrev item_count : (ℕ → List ℕ) → ℕ → ℕ
    item_count replies c = length (plain (bus_server admits replies) r.notes c)

    -- the hub counted the items of each connection, as none is gone
    all_items : (replies : ℕ → List ℕ) → AreReplies routes_of_bus r.notes (net_state net).given replies → (c : ℕ) → is_accepted c r.notes ≡ true → count_at hub c ≡ item_count replies c
    all_items replies agree c accepted =
        has.run.counts replies agree c accepted ∙ ap (λ b. cond b 0 (item_count replies c)) (none_gone_phase (bus_server admits replies) tt seed r.notes net (backlog_at hub) (runs replies agree) c accepted)

    counted : (replies : ℕ → List ℕ) → AreReplies routes_of_bus r.notes (net_state net).given replies → over_accepted (count_at hub) r.notes ≡ over_accepted (item_count replies) r.notes
    counted replies agree = same_sums (count_at hub) (item_count replies) (gather accepted_by r.notes) (all_items replies agree)

    taken_all : (replies : ℕ → List ℕ) → AreReplies routes_of_bus r.notes (net_state net).given replies → (c : ℕ) → is_accepted c r.notes ≡ true → (net_state net).taken c ≡ all_spelled (plain (bus_server admits replies) r.notes c)
    taken_all replies agree c accepted =
        all_taken (bus_server admits replies) tt seed r.notes net (backlog_at hub) (runs replies agree) c accepted (none_gone_phase (bus_server admits replies) tt seed r.notes net (backlog_at hub) (runs replies agree) c accepted)

    pub summary_is : (summary : Summary) → Counts r.notes (net_state net).taken (count_at hub) summary → IsSummary admits seed summary
    summary_is summary counts = record {
      notes = r.notes;
      net = net;
      held = backlog_at hub;
      run = is;
      counts = λ replies agree. record {
        turns = counts.turns;
        connections = counts.connections;
        messages = counts.messages;
        items = counts.items ∙ counted replies agree;
        octets = counts.octets;
        dropped = counts.dropped;
        sum = counts.sum;
      };
      all_stay = none_gone (bus_server admits some_replies) tt seed r.notes net (backlog_at hub) (runs some_replies agrees);
      turns = counts.turns ∙ turns_of_run seed r.notes (net_state net).passed (runs some_replies agrees).ends.right.follows.passed is.passed;
      none_dropped = counts.dropped ∙ nothing_dropped (bus_server admits some_replies) tt seed r.notes net (backlog_at hub) (runs some_replies agrees);
      all_messages = λ all. counts.messages ∙ messages_all (bus_server admits some_replies) tt seed r.notes net (backlog_at hub) (runs some_replies agrees) (sym counts.connections ∙ all);
      complete = λ admitted enough.
          let (all, items) = all_pass (bus_server admits) tt seed r.notes net (backlog_at hub) some_replies agrees (runs some_replies agrees) (has.first seed made) admitted enough in
          (counts.connections ∙ all, counts.items ∙ counted some_replies agrees ∙ items);
      all_octets = λ all items.
          let accepted : length (gather accepted_by r.notes) ≡ 64 = sym counts.connections ∙ all in
          let taken = same_sums (λ c. length ((net_state net).taken c)) (λ c. length (all_spelled (plain (bus_server admits some_replies) r.notes c))) (gather accepted_by r.notes)
          (λ c there. ap (λ (l : List ℕ). length l) (taken_all some_replies agrees c there)) in
          let weighed = octets_all (bus_server admits some_replies) tt seed r.notes net (backlog_at hub) (runs some_replies agrees) agrees accepted in
          counts.octets ∙ taken ∙ weighed ∙ ap (λ k. 7104 + 18 * k) (sym (counted some_replies agrees) ∙ sym counts.items ∙ items);
      all_taken = taken_all;
    }
