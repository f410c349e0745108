-- Ticks and counts of a hub beside what its notes say.
use Rattle.run_ticks.proofs.Below.{◌≡◌, ◌⊎◌, inl, inr, ◌<◌, ◌≤◌, ◌+◌, ◌-◌, ◌^◌, min, ◌||◌, ℕ, List, [], ◌∷◌, ◌++◌, Option, Some, None, Bool, true, false, cond, not, ◌&&◌, nat_eq, refl, sym, ap, ◌∙◌, subst, append_assoc, arith, nat_tests, list_all, list_any, IsConfig, ConfigValue, NoteValue, OrderValue, Phase, Head, Open, Leaving, Ending, Gone, Idle, LinkFailed, by_cases, clash, or_left, or_right, same_number, all_follow, all_then, none_then, open_shown, one_more, number_of, is_gone_in, is_gone_by_in, is_open, phase, world, is_away, unless_gone, is_outgoing, QuietCount, new_count, one_tick, one_heard, quiet, count_by, is_leaving, is_tick, is_uncounted, by_note, notes_of, of_notes, Timely, TicksRight, is_pinged, is_ping_due, is_end_due, is_ticking, one_if, HubState, is_present, Does, Proceeds, Progress, progress_after_all, progress_at, standings_at, SameCounts, CountsBeside, CountsBy, counts_at, end_due_at, leaves_at, next_count, ping_due_at, ServesAll, Ticks, is_of_tick, notes_step, away_by_phase, none_if_gone, phase_of_away, unaccepted, Agrees, is_of_orders, outgoing_of_orders, orders_notes, Counts, IsTicked}
use Rattle.ws_kinds.specs.NoteValue as note
use Rattle.run_meaning.specs.Server as run
use Rattle.hub_lines.specs.State.{Entry, Server, entry_of, is_gone}
use Rattle.run_ticks.proofs.CountLemmas.{quiet_one, quiet_still}
use Rattle.run_ticks.proofs.TimelyLemmas.{timely_none, timely_other, timely_tick}
use Rattle.run_ticks.proofs.NoteLemmas.{orders_uncounted, orders_unticking}
use Rattle.hub_notes.proofs.All.{stayed as gone_by_none, tick_calm, tick_unaccepted, tick_uncounted}

-- ---- phases

leaving_shown : (p : Option Phase) → is_leaving (unless_gone p) ≡ is_leaving p
leaving_shown None = refl
leaving_shown (Some Head) = refl
leaving_shown (Some Open) = refl
leaving_shown (Some Leaving) = refl
leaving_shown (Some Ending) = refl
leaving_shown (Some Gone) = refl

some_away : (p : Option Phase) → unless_gone p ≡ None → is_away p ≡ true
some_away None e = refl
some_away (Some Head) e = absurd (let z : Some Head ≡ None = e in cc)
some_away (Some Open) e = absurd (let z : Some Open ≡ None = e in cc)
some_away (Some Leaving) e = absurd (let z : Some Leaving ≡ None = e in cc)
some_away (Some Ending) e = absurd (let z : Some Ending ≡ None = e in cc)
some_away (Some Gone) e = refl

accepted_itself : (c : ℕ) (n : NoteValue) (p q : QuietCount) (leaves : Bool) → n ≡ note.accepted c → count_by c n leaves p ≡ count_by c n leaves q
accepted_itself c n p q leaves e = subst (λ (z : NoteValue). count_by c z leaves p ≡ count_by c z leaves q) (sym e) (both (nat_eq c c) (same_number c))
  where
    both : (b : Bool) → b ≡ true → cond b new_count p ≡ cond b new_count q
    both true h = refl
    both false h = clash false refl h

-- ---- who is there after a tick

-- who is there is not gone, for no cause
not_gone : (ns : List NoteValue) (a b : Server) → list_all is_of_tick ns ≡ true → Does (λ _. []) (by_note note.tick ∷ of_notes ns) a b → (c : ℕ) → is_present b.hub c ≡ true
    → (is_gone_by_in c LinkFailed ns ≡ false) × (is_gone_by_in c Idle ns ≡ false)
not_gone ns a b of_tick does c there =
    let came : progress_at b.hub c ≡ progress_after_all c ns (progress_at a.hub c) = does.progress c ∙ notes_step c ns (progress_at a.hub c) in
    by_cases (is_gone_in c ns)
    (λ gone. clash (is_present b.hub c) (away_by_phase b.hub c (ap (λ (z : Progress). z.phase) came ∙ none_if_gone c ns (progress_at a.hub c) (unaccepted ns c (tick_unaccepted ns of_tick)) gone)) there)
    (λ still. (gone_by_none c LinkFailed ns still, gone_by_none c Idle ns still))

-- ---- counts within their bounds

ticks_within : (c : ℕ) (n : NoteValue) (leaves : Bool) (q : QuietCount) (idle : ℕ) → is_tick n ≡ false → 0 < idle → (q.ticks < idle) ⊎ (n ≡ note.accepted c) → (count_by c n leaves q).ticks < idle
ticks_within c n leaves q idle still some (inr e) = subst (λ (z : NoteValue). (count_by c z leaves q).ticks < idle) (sym e) (subst (λ (b : Bool). (cond b new_count q).ticks < idle) (sym (same_number c)) some)
ticks_within c n leaves q idle still some (inl l) = by n still
  where
    accepted : (b : Bool) → (cond b new_count q).ticks < idle
    accepted true = some
    accepted false = l

    heard : (b w : Bool) → (cond b (one_heard w q) q).ticks < idle
    heard true true = l
    heard true false = some
    heard false w = l

    by : (m : NoteValue) → is_tick m ≡ false → (count_by c m leaves q).ticks < idle
    by note.tick h = clash true h refl
    by (note.accepted d) h = accepted (nat_eq d c)
    by (note.given d k) h = heard (nat_eq d c) leaves
    by _ h = l

leaving_within : (c : ℕ) (n : NoteValue) (leaves : Bool) (q : QuietCount) (leave : ℕ) → is_tick n ≡ false → 0 < leave → (q.leaving < leave) ⊎ (n ≡ note.accepted c) → (count_by c n leaves q).leaving < leave
leaving_within c n leaves q leave still some (inr e) = subst (λ (z : NoteValue). (count_by c z leaves q).leaving < leave) (sym e) (subst (λ (b : Bool). (cond b new_count q).leaving < leave) (sym (same_number c)) some)
leaving_within c n leaves q leave still some (inl l) = by n still
  where
    accepted : (b : Bool) → (cond b new_count q).leaving < leave
    accepted true = some
    accepted false = l

    heard : (b w : Bool) → (cond b (one_heard w q) q).leaving < leave
    heard true true = l
    heard true false = l
    heard false w = l

    by : (m : NoteValue) → is_tick m ≡ false → (count_by c m leaves q).leaving < leave
    by note.tick h = clash true h refl
    by (note.accepted d) h = accepted (nat_eq d c)
    by (note.given d k) h = heard (nat_eq d c) leaves
    by _ h = l

next_below : (n k : ℕ) → n < k → nat_eq (n + 1) k ≡ false → n + 1 < k
next_below n k l e = grind (arith, nat_tests)

leaving_below : (b : Bool) (n k : ℕ) → n < k → (b && nat_eq (n + 1) k) ≡ false → cond b (n + 1) n < k
leaving_below true n k l e = next_below n k l e
leaving_below false n k l e = l

more_exact : (n k : ℕ) → n < k → k ≤ 1000000 → one_more n ≡ n + 1
more_exact n k l m = min_is (n + 1) (2 ^ 64 - 1) (within n k l m)
  where
    within : (n k : ℕ) → n < k → k ≤ 1000000 → n + 1 ≤ 2 ^ 64 - 1
    within n k l m = omega arith

    min_is : (x y : ℕ) → x ≤ y → min x y ≡ x
    min_is x y l = grind (arith, nat_tests)

count_exact : (leaves : Bool) (q : QuietCount) (idle leave : ℕ) → idle ≤ 1000000 → leave ≤ 1000000 → q.ticks < idle → q.leaving < leave → next_count leaves q ≡ one_tick leaves q
count_exact true q idle leave i l t v = ap (λ (z : ℕ). record { ticks = z; leaving = one_more q.leaving }) (more_exact q.ticks idle t i) ∙ ap (λ (z : ℕ). record { ticks = q.ticks + 1; leaving = z }) (more_exact q.leaving leave v l)
count_exact false q idle leave i l t v = ap (λ (z : ℕ). record { ticks = z; leaving = q.leaving }) (more_exact q.ticks idle t i)

module _ {S : Type 0} (r : run.Server S) (ns : List NoteValue) (a : Server) (agrees : Agrees (world r ns) ns a) where
  phase_is : (c : ℕ) → (progress_at a.hub c).phase ≡ unless_gone (phase r ns c)
  phase_is c = ap (λ (z : Progress). z.phase) (agrees.lines c).progress

  leaves_is : (c : ℕ) → leaves_at a.hub c ≡ is_leaving (phase r ns c)
  leaves_is c = ap is_leaving (phase_is c) ∙ leaving_shown (phase r ns c)

  -- who is not gone by the notes is there
  there_is : (c : ℕ) → is_away (phase r ns c) ≡ false → is_present a.hub c ≡ true
  there_is c e = by_cases (is_present a.hub c)
      (λ there. there)
      (λ away. clash (is_away (phase r ns c)) e (some_away (phase r ns c) (sym (phase_is c) ∙ phase_of_away a.hub c away)))

  -- the counts by the notes after one that is counted
  noted : (n : NoteValue) (ms : List NoteValue) → list_all is_uncounted ms ≡ true → (c : ℕ) → quiet r (ns ++ n ∷ ms) c ≡ count_by c n (leaves_at a.hub c) (quiet r ns c)
  noted n ms rest c =
      ap (λ (z : List NoteValue). quiet r z c) (sym (append_assoc ns (n ∷ []) ms)) ∙ quiet_still r (ns ++ n ∷ []) ms c rest ∙ quiet_one r ns n c
      ∙ ap (λ (k : Bool). count_by c n k (quiet r ns c)) (sym (leaves_is c))

  -- one note that is counted, and notes that are not
  counts_now : (n : NoteValue) (ms : List NoteValue) (b : Server) → list_all is_uncounted ms ≡ true → CountsBy n a.hub b.hub → Counts r ns a.hub → (c : ℕ) → is_present b.hub c ≡ true → counts_at b.hub c ≡ quiet r (ns ++ n ∷ ms) c
  counts_now n ms b rest by counts c there = let z = by c there in z.1 ∙ earlier z.0 ∙ sym (noted n ms rest c)
    where
      earlier : (is_present a.hub c ≡ true) ⊎ (n ≡ note.accepted c) → count_by c n (leaves_at a.hub c) (counts_at a.hub c) ≡ count_by c n (leaves_at a.hub c) (quiet r ns c)
      earlier (inl was) = ap (count_by c n (leaves_at a.hub c)) (counts.counts c was)
      earlier (inr new) = accepted_itself c n (counts_at a.hub c) (quiet r ns c) (leaves_at a.hub c) new

  counts_one : (n : NoteValue) (ms : List NoteValue) (b : Server) → list_all is_uncounted ms ≡ true → is_tick n ≡ false → IsConfig a.hub.config → b.hub.config ≡ a.hub.config → CountsBy n a.hub b.hub → Counts r ns a.hub → Counts r (ns ++ n ∷ ms) b.hub
  counts_one n ms b rest still config same by counts = record {
    counts = counts_now n ms b rest by counts;
    ticks = λ c there. let z = by c there in
        subst (λ (k : ConfigValue). (counts_at b.hub c).ticks < k.idle) (sym same) (subst (λ (q : QuietCount). q.ticks < a.hub.config.idle) (sym z.1)
        (ticks_within c n (leaves_at a.hub c) (counts_at a.hub c) a.hub.config.idle still (above a.hub.config.ping_after a.hub.config.idle config.idle.0) (within z.0 (counts.ticks c))));
    leaving = λ c there. let z = by c there in
        subst (λ (k : ConfigValue). (counts_at b.hub c).leaving < k.leave) (sym same) (subst (λ (q : QuietCount). q.leaving < a.hub.config.leave) (sym z.1)
        (leaving_within c n (leaves_at a.hub c) (counts_at a.hub c) a.hub.config.leave still (some a.hub.config.leave config.leave.0) (within z.0 (counts.leaving c))));
  }
    where
      above : (x y : ℕ) → x < y → 0 < y
      above x y l = omega arith

      some : (x : ℕ) → 1 ≤ x → 0 < x
      some x l = omega arith

      within : {c : ℕ} {P : Type 0} → (is_present a.hub c ≡ true) ⊎ (n ≡ note.accepted c) → (is_present a.hub c ≡ true → P) → P ⊎ (n ≡ note.accepted c)
      within (inl was) f = inl (f was)
      within (inr new) f = inr new

  -- what is due by the hub is due by the notes, of one that is there
  ping_is : Counts r ns a.hub → (c : ℕ) → is_present a.hub c ≡ true → ping_due_at a.hub c ≡ is_ping_due a.hub.config (phase r ns c) (quiet r ns c)
  ping_is counts c there =
      ap (λ (k : Bool). k && nat_eq ((counts_at a.hub c).ticks + 1) a.hub.config.ping_after) (ap is_open (phase_is c) ∙ open_shown (phase r ns c))
      ∙ ap (λ (q : QuietCount). is_ping_due a.hub.config (phase r ns c) q) (counts.counts c there)

  end_is : Counts r ns a.hub → (c : ℕ) → is_present a.hub c ≡ true → end_due_at a.hub c ≡ is_end_due a.hub.config (phase r ns c) (quiet r ns c)
  end_is counts c there =
      ap (λ (k : Bool). nat_eq ((counts_at a.hub c).ticks + 1) a.hub.config.idle || (k && nat_eq ((counts_at a.hub c).leaving + 1) a.hub.config.leave)) (leaves_is c)
      ∙ ap (λ (q : QuietCount). is_end_due a.hub.config (phase r ns c) q) (counts.counts c there)

  -- of one that is away no ping is due
  no_ping : (c : ℕ) → is_present a.hub c ≡ false → ping_due_at a.hub c ≡ false
  no_ping c away = ap (λ (p : Option Phase). is_open p && nat_eq ((counts_at a.hub c).ticks + 1) a.hub.config.ping_after) (phase_of_away a.hub c away)

  right_at : (b : Server) (x : Ticks a b) → Counts r ns a.hub → (c : ℕ) → TicksRight a.hub.config c (phase r ns c) (quiet r ns c) x.rest
  right_at b x counts c = record {
    pinged = by_cases (is_present a.hub c)
        (λ there. subst (λ (k : Bool). number_of (is_pinged c) x.rest ≤ one_if k) (ping_is counts c there) (x.pinged c))
        (λ away. least (number_of (is_pinged c) x.rest) (one_if (is_ping_due a.hub.config (phase r ns c) (quiet r ns c))) (subst (λ (k : Bool). number_of (is_pinged c) x.rest ≤ one_if k) (no_ping c away) (x.pinged c)));
    pings = λ known lost. let there = there_is c known in x.pings c there lost ∙ ap one_if (ping_is counts c there);
    ends = λ known lost. let there = there_is c known in x.ends c there lost ∙ end_is counts c there;
  }
    where
      least : (k m : ℕ) → k ≤ 0 → k ≤ m
      least k m l = omega arith

  timely_ticks : (b : Server) (x : Ticks a b) → Counts r ns a.hub → Timely r a.hub.config ns → Timely r a.hub.config (ns ++ note.tick ∷ x.rest)
  timely_ticks b x counts t = timely_tick r a.hub.config ns x.rest (tick_calm x.rest x.of_tick) (right_at b x counts) t

  counts_ticks : (b : Server) (x : Ticks a b) → IsConfig a.hub.config → Counts r ns a.hub → Counts r (ns ++ note.tick ∷ x.rest) b.hub
  counts_ticks b x config counts = record {
    counts = λ c there. let z = x.counts c there in
        z.1 ∙ exact c z.0 ∙ ap (one_tick (leaves_at a.hub c)) (counts.counts c z.0) ∙ sym (noted note.tick x.rest (tick_uncounted x.rest x.of_tick) c);
    ticks = λ c there. let z = x.counts c there in
        subst (λ (k : ConfigValue). (counts_at b.hub c).ticks < k.idle) (sym same) (subst (λ (q : QuietCount). q.ticks < a.hub.config.idle) (sym (z.1 ∙ exact c z.0))
        (next_below (counts_at a.hub c).ticks a.hub.config.idle (counts.ticks c z.0) (or_left (nat_eq ((counts_at a.hub c).ticks + 1) a.hub.config.idle) (leaves_at a.hub c && nat_eq ((counts_at a.hub c).leaving + 1) a.hub.config.leave) (stays c z.0 there))));
    leaving = λ c there. let z = x.counts c there in
        subst (λ (k : ConfigValue). (counts_at b.hub c).leaving < k.leave) (sym same) (subst (λ (q : QuietCount). q.leaving < a.hub.config.leave) (sym (z.1 ∙ exact c z.0))
        (leaving_below (leaves_at a.hub c) (counts_at a.hub c).leaving a.hub.config.leave (counts.leaving c z.0) (or_right (nat_eq ((counts_at a.hub c).ticks + 1) a.hub.config.idle) (leaves_at a.hub c && nat_eq ((counts_at a.hub c).leaving + 1) a.hub.config.leave) (stays c z.0 there))));
  }
    where
      does : Does (λ _. []) (by_note note.tick ∷ of_notes x.rest) a b
      does = x.does (λ _. [])

      same : b.hub.config ≡ a.hub.config
      same = does.appends.lines.config

      exact : (c : ℕ) → is_present a.hub c ≡ true → next_count (leaves_at a.hub c) (counts_at a.hub c) ≡ one_tick (leaves_at a.hub c) (counts_at a.hub c)
      exact c was = count_exact (leaves_at a.hub c) (counts_at a.hub c) a.hub.config.idle a.hub.config.leave config.idle.1 config.leave.1 (counts.ticks c was) (counts.leaving c was)

      -- the end of one that is there is not due
      stays : (c : ℕ) → is_present a.hub c ≡ true → is_present b.hub c ≡ true → end_due_at a.hub c ≡ false
      stays c was there =
          let none = not_gone x.rest a b x.of_tick does c there in
          sym (x.ends c was (none.0)) ∙ none.1

-- notes that are not counted
counts_same : {S : Type 0} (r : run.Server S) (ns ms : List NoteValue) (h k : HubState) → list_all is_uncounted ms ≡ true → k.config ≡ h.config → SameCounts h k → Counts r ns h → Counts r (ns ++ ms) k
counts_same r ns ms h k rest config same counts = record {
  counts = λ c there. let x = same c there in x.1 ∙ counts.counts c x.0 ∙ sym (quiet_still r ns ms c rest);
  ticks = λ c there. let x = same c there in subst (λ (z : ConfigValue). (counts_at k c).ticks < z.idle) (sym config) (subst (λ (q : QuietCount). q.ticks < h.config.idle) (sym x.1) (counts.ticks c x.0));
  leaving = λ c there. let x = same c there in subst (λ (z : ConfigValue). (counts_at k c).leaving < z.leave) (sym config) (subst (λ (q : QuietCount). q.leaving < h.config.leave) (sym x.1) (counts.leaving c x.0));
}

module _ {S : Type 0} (r : run.Server S) where
  pub ticked_first : (h : HubState) → h.entries ≡ [] → IsTicked r [] h
  ticked_first h none = record {
    counts = record {
      counts = λ c there. clash (is_present h c) (nobody c) there;
      ticks = λ c there. clash (is_present h c) (nobody c) there;
      leaving = λ c there. clash (is_present h c) (nobody c) there;
    };
    timely = timely_none r h.config;
  }
    where
      nobody : (c : ℕ) → is_present h c ≡ false
      nobody c = ap (λ (z : List Entry). not (is_gone (entry_of z c).phase)) none

  timely_now : (ns ms : List NoteValue) (h k : HubState) → list_any is_ticking ms ≡ false → k.config ≡ h.config → Timely r h.config ns → Timely r k.config (ns ++ ms)
  timely_now ns ms h k still config t = subst (λ (z : ConfigValue). Timely r z (ns ++ ms)) (sym config) (timely_other r h.config ns ms still t)

  pub ticked_call : (ns ms : List NoteValue) (h k : HubState) → list_all is_uncounted ms ≡ true → list_any is_ticking ms ≡ false → CountsBeside ms h k → k.config ≡ h.config → IsTicked r ns h → IsTicked r (ns ++ ms) k
  ticked_call ns ms h k rest still same config x = record {
    counts = counts_same r ns ms h k rest config (same rest) x.counts;
    timely = timely_now ns ms h k still config x.timely;
  }

  pub ticked_proceed : (ns first last : List NoteValue) (a b : Server) (x : Proceeds first last a b) → list_all is_uncounted first ≡ true → list_all is_uncounted last ≡ true
      → list_any is_ticking first ≡ false → list_any is_ticking last ≡ false → b.hub.config ≡ a.hub.config → IsTicked r ns a.hub → IsTicked r (ns ++ (first ++ (x.sending ++ last))) b.hub
  ticked_proceed ns first last a b x e g i j config t =
      let sent = all_follow is_outgoing is_of_orders outgoing_of_orders x.sending x.outgoing in
      ticked_call ns (first ++ (x.sending ++ last)) a.hub b.hub
      (all_then is_uncounted first (x.sending ++ last) e (all_then is_uncounted x.sending last (orders_uncounted x.sending sent) g))
      (none_then is_ticking first (x.sending ++ last) i (none_then is_ticking x.sending last (orders_unticking x.sending sent) j)) x.advances.counts config t

  pub ticked_orders : (ns : List NoteValue) (f : ConfigValue) (admits : List ℕ → Bool) (from number : ℕ) (os : List OrderValue) (a b : Server) (x : ServesAll f admits from number os a b) → IsTicked r ns a.hub
      → IsTicked r (ns ++ notes_of x.steps) b.hub
  ticked_orders ns f admits from number os a b x =
      let does = x.does (λ _. []) in
      let served = orders_notes is_of_orders f admits from outgoing_of_orders (λ i why. refl) os number x.steps (standings_at a.hub) x.performs in
      ticked_call ns (notes_of x.steps) a.hub b.hub (orders_uncounted (notes_of x.steps) served) (orders_unticking (notes_of x.steps) served) does.counts does.appends.lines.config

  pub ticked_counted : (ns : List NoteValue) (n : NoteValue) (ms : List NoteValue) (a b : Server) → is_tick n ≡ false → list_all is_uncounted ms ≡ true → list_any is_ticking (n ∷ ms) ≡ false
      → IsConfig a.hub.config → b.hub.config ≡ a.hub.config → CountsBy n a.hub b.hub → Agrees (world r ns) ns a → IsTicked r ns a.hub → IsTicked r (ns ++ n ∷ ms) b.hub
  ticked_counted ns n ms a b tickless rest still config same by agrees x = record {
    counts = counts_one r ns a agrees n ms b rest tickless config same by x.counts;
    timely = timely_now ns (n ∷ ms) a.hub b.hub still same x.timely;
  }

  pub ticked_tick : (ns : List NoteValue) (a b : Server) (x : Ticks a b) → IsConfig a.hub.config → Agrees (world r ns) ns a → IsTicked r ns a.hub → IsTicked r (ns ++ note.tick ∷ x.rest) b.hub
  ticked_tick ns a b x config agrees t = record {
    counts = counts_ticks r ns a agrees b x config t.counts;
    timely = subst (λ (z : ConfigValue). Timely r z (ns ++ note.tick ∷ x.rest)) (sym ((x.does (λ _. [])).appends.lines.config)) (timely_ticks r ns a agrees b x t.counts t.timely);
  }
