-- Connections that come.
use Rattle.loop_runner.proofs.Below.{◌||◌, ◌≡◌, ◌≢◌, ◌≤◌, ◌<◌, ◌^◌, ◌-◌, inl, ⊎_elim, ℕ, List, [], ◌∷◌, length, Option, Some, None, Bool, true, false, cond, is_some, refl, sym, ap, ◌∙◌, subst, arith, cases_eq, Conn, HandlerMeaning, Phase, Head, Open, Leaving, Ending, Gone, NoteValue, IsNoted, NetState, Nexts, Shuts, moved, unless_gone, is_reading, is_silent, HubState, Server, server, is_present, has_entry, phase_at, Ties, nothing, Progress, progress_at, progress_by, Appends, IsTable, table_of, Makes, Arrives, Taken, by_cases, clash, of_here, of_other, phase_of_away, IntakeView, AreThere, there_arrived, there_shut, away, Intake, Intakes, max_of, intake_at, IsNew, ChangesIntake, SameIntakes, IsTaken, Every, Steps, Running, Onward, is_kept_at, Beginning, KeptAll, beginning, intake_view, with_view, Moment, TakesIn, reading_at, is_turn, is_link_failure, told_none}
use Rattle.ws_kinds.specs.NoteValue as note
use Rattle.link_trait.specs.declared.net.NetEvent.TheVariants as event
use Rattle.loop_runner.proofs.GrowLemmas.{grows_shut}
use Rattle.loop_runner.proofs.ProgressLemmas.{kept_by, kept_at, phase_read, read_present}
use Rattle.loop_runner.proofs.RunningLemmas.{running_steps, running_same, running_shut, taken_away}
use Rattle.loop_runner.proofs.StepLemmas.{onward_call, onward_still, starts, steps_makes, steps_noted, steps_still, steps_then, telling_still}
use Rattle.loop_runner.proofs.ViewLemmas.{new_here, views_new, views_same, views_shut}

-- ---- a connection that is not there

absent : (h : HubState) (c : ℕ) → IsTable (table_of h) → h.named < c → has_entry h.entries c ≡ false
absent h c table new = by_cases (has_entry h.entries c) (λ e. absurd (let least : c ≤ h.named = table.named c e in omega arith)) (λ e. e)

-- its link is shut
steps_shut : (conn : ℕ) (h : HubState) (a b : NetState) (t : Option (List NoteValue)) → Shuts conn a b → is_present h conn ≡ false → Steps Every (server h a t) (server h b t)
steps_shut conn h a b t x gone = steps_still Every h a b t t (onward_still h h a b t (grows_shut conn h a b t x) x.room (λ told. (x.told told).passed) x.faults (telling_still h a b t t [] (told_none t)))
    x.named (λ ties c there. x.live_elsewhere c (other c there) ∙ ties c there) (λ short. short) (λ waits c there some. x.writable_elsewhere c (other c there) ∙ waits c there some)
    (λ there c live. ⊎_elim
    (λ (same : c ≡ conn). clash (b.live c) (ap b.live same ∙ x.live) live)
    (λ (ne : c ≡ conn → ⊥). there c (sym (x.live_elsewhere c ne) ∙ live)) (cases_eq c conn))
    (λ c _ r. x.due_elsewhere c (other c (read_present h c r)))
  where
    other : (c : ℕ) → is_present h c ≡ true → c ≢ conn
    other c there same = clash (is_present h conn) gone (ap (is_present h) (sym same) ∙ there)

-- it was live only until it was shut
there_away : (conn : Conn) (h : HubState) (before net later : NetState) (t t' : Option (List NoteValue)) → Nexts (event.Accept conn) before net → Shuts conn.0 net later
    → AreThere (server h before t) → AreThere (server h later t')
there_away conn h before net later t t' next shuts there = λ c live. ⊎_elim
    (λ (same : c ≡ conn.0). clash (later.live c) (ap later.live same ∙ shuts.live) live)
    (λ (ne : c ≡ conn.0 → ⊥). there c (sym (next.event.live_elsewhere c ne) ∙ sym (shuts.live_elsewhere c ne) ∙ live))
    (cases_eq c conn.0)

shut_after : (conn : ℕ) (old mid new : Intakes) → ChangesIntake conn old mid → ChangesIntake conn mid new → ChangesIntake conn old new
shut_after conn old mid new x y = record { max = y.max ∙ x.max; others = λ c ne. y.others c ne ∙ x.others c ne }

-- ---- it was taken in

new_admitted : (max : ℕ) (x : Option Intake) → IsNew max x → is_some x ≡ true
new_admitted max None i = absurd i
new_admitted max (Some intake) i = refl

new_some : (max : ℕ) (x : Option Intake) (intake : Intake) → IsNew max x → x ≡ Some intake → IsNew max (Some intake)
new_some max x intake i e = subst (IsNew max) e i

new_taken : (max : ℕ) (phase : Option Phase) (intake : Intake) → IsNew max (Some intake) → (is_reading phase ≡ true → phase ≡ Some Head) → IsTaken phase intake.reader
new_taken max None intake i h = tt {0}
new_taken max (Some Head) intake i h = (i.0, subst (λ (z : List ℕ). length z ≤ 8191) (sym i.1) (omega arith))
new_taken max (Some Open) intake i h = absurd (let z : Some Open ≡ Some Head = h refl in cc)
new_taken max (Some Leaving) intake i h = absurd (let z : Some Leaving ≡ Some Head = h refl in cc)
new_taken max (Some Ending) intake i h = tt {0}
new_taken max (Some Gone) intake i h = tt {0}

module _ (conn : ℕ) (old new : Intakes) (a b : Server) (x : Running Every old a) (fresh : a.hub.named < conn)
    (change : ChangesIntake conn old new) (made : IsNew (max_of old) (intake_at new conn)) (arrives : Arrives Taken conn a b)
    (unasked : a.net.due conn ≡ false) (named : conn ≤ a.net.named) (ties : Ties b) (app : Appends nothing a b) (table : IsTable (table_of b.hub)) where
  makes : Makes (note.accepted conn ∷ []) a b
  makes = arrives.3

  others : (c : ℕ) → c ≢ conn → progress_at b.hub c ≡ progress_at a.hub c
  others c ne = makes.advances.progress c ∙ ap (λ (z : Bool). cond z (progress_by (note.accepted conn) (progress_at a.hub c)) (progress_at a.hub c)) (of_other conn c ne)

  reading_before : (c : ℕ) → c ≢ conn → is_reading (phase_at b.hub c) ≡ true → is_reading (phase_at a.hub c) ≡ true
  reading_before c ne r = reading_at a.hub c ∙ ap (λ (z : Progress). is_reading z.phase) (sym (others c ne)) ∙ sym (reading_at b.hub c) ∙ r

  taken_before : (c : ℕ) (intake : Intake) → c ≢ conn → IsTaken (phase_at a.hub c) intake.reader → IsTaken (phase_at b.hub c) intake.reader
  taken_before c intake ne t = by_cases (is_reading (phase_at b.hub c))
      (λ r. subst (λ (z : Option Phase). IsTaken z intake.reader)
      (phase_read a.hub c (reading_before c ne r) ∙ ap (λ (z : Progress). z.phase) (sym (others c ne)) ∙ sym (phase_read b.hub c r)) t)
      (λ gone. taken_away (phase_at b.hub c) intake.reader gone)

  head : is_reading (phase_at b.hub conn) ≡ true → phase_at b.hub conn ≡ Some Head
  head r =
      let p = progress_at a.hub conn in
      let n = note.accepted conn in
      phase_read b.hub conn r ∙ ap (λ (z : Progress). z.phase) (makes.advances.progress conn)
      ∙ ap (λ (z : Bool). phase_in (cond z (progress_by n p) p)) (of_here conn)
      ∙ ap (λ (z : Option Phase). unless_gone (moved z n)) (phase_of_away a.hub conn (away a.hub conn x.table fresh))
    where
      phase_in : Progress → Option Phase
      phase_in p = p.phase

  same_due : (c : ℕ) → b.net.due c ≡ a.net.due c
  same_due c = makes.advances.net.due c refl

  kept_before : (c : ℕ) → c ≢ conn → is_kept_at b.hub c ≡ true → is_kept_at a.hub c ≡ true
  kept_before c ne k = kept_at a.hub c ∙ ap (λ (z : Progress). kept_by z.phase z.due) (sym (others c ne)) ∙ sym (kept_at b.hub c) ∙ k

  running_accepted : Running Every new b
  running_accepted = record {
    max = ap (λ z. z.max_message) app.lines.config ∙ x.max ∙ sym change.max;
    kept = λ c k. ⊎_elim
        (λ (same : c ≡ conn). ap (λ (z : ℕ). is_some (intake_at new z)) same ∙ new_admitted (max_of old) (intake_at new conn) made)
        (λ (ne : c ≡ conn → ⊥). ap is_some (change.others c ne) ∙ x.kept c (kept_before c ne k)) (cases_eq c conn);
    table = table;
    ties = ties;
    named = subst (λ (z : ℕ). z ≤ b.net.named) (sym arrives.1) (subst (λ (z : ℕ). conn ≤ z) (sym makes.advances.net.named) named);
    short = app.short x.short;
    waits = app.waits x.waits;
    readers = λ c intake at. ⊎_elim
        (λ (same : c ≡ conn). (new_some (max_of old) (intake_at new conn) intake made (ap (intake_at new) (sym same) ∙ at)).2 ∙ sym change.max)
        (λ (ne : c ≡ conn → ⊥). x.readers c intake (sym (change.others c ne) ∙ at) ∙ sym change.max) (cases_eq c conn);
    asked = λ c _ r. ⊎_elim
        (λ (same : c ≡ conn). same_due c ∙ ap a.net.due same ∙ unasked)
        (λ (ne : c ≡ conn → ⊥). same_due c ∙ x.asked c (tt {0}) (reading_before c ne r)) (cases_eq c conn);
    taken = λ c _ intake at. ⊎_elim
        (λ (same : c ≡ conn). subst (λ (z : ℕ). IsTaken (phase_at b.hub z) intake.reader) (sym same)
        (new_taken (max_of old) (phase_at b.hub conn) intake (new_some (max_of old) (intake_at new conn) intake made (ap (intake_at new) (sym same) ∙ at)) head))
        (λ (ne : c ≡ conn → ⊥). taken_before c intake ne (x.taken c (tt {0}) intake (sym (change.others c ne) ∙ at))) (cases_eq c conn);
  }

  onward_accepted : Onward 0 0 a b
  onward_accepted = onward_call 0 0 0 (note.accepted conn ∷ []) a b makes.advances makes.fails.faults refl refl (let now = arrives.1 in omega arith)
      (λ c low. ap (λ (z : Bool). z || false) (of_other c conn (let ne : conn ≢ c = omega arith in ne)))

-- ---- what comes of it

-- what is kept from before the net's answer, with these views afterwards
abbrev KeepsAs : {S : Type 0} → Conn → HubState → NetState → Option (List NoteValue) → S → Server → ((ℕ → IntakeView) → ℕ → IntakeView) → Type 0
KeepsAs {S} conn h net t now s later = (b : Beginning S) (before : NetState) (views : ℕ → IntakeView) → Nexts (event.Accept conn) before net → length before.passed < 2 ^ 64 - 1
    → KeptAll b (server h before t) now views None → KeptAll b s now (later views) None

module _ {H : Type 0} {handler : HandlerMeaning H} (conn : Conn) (old : Intakes) (h : HubState) (net : NetState) (t : Option (List NoteValue)) (now : handler.State)
    (x : Running Every old (server h net t)) (fresh : h.named < conn.0) where
  abbrev from : Moment handler
  from = record { server = server h net t; now = now }

  abbrev to : Server → Moment handler
  to s = record { server = s; now = now }

  -- the loop turned it away
  pub turned_away : (new : Intakes) (n : NoteValue) (end : NetState) (t' : Option (List NoteValue)) → SameIntakes old new → IsNoted t n t' → ((c : ℕ) → is_silent c n ≡ true) → (is_turn n || is_link_failure n) ≡ false → Shuts conn.0 net end
      → KeepsAs conn h net t now (server h end t') (λ views. views) → TakesIn (event.Accept conn) old new from (to (server h end t'))
  turned_away new n end t' same noted silent none shuts keep =
      let s : Steps Every (server h net t) (server h end t') = steps_then Every (server h net t) (server h net t') (server h end t') (steps_noted n h net t t' noted silent none) (steps_shut conn.0 h net end t' shuts (away h conn.0 x.table fresh)) in
      record {
        running = running_same Every old new (server h end t') (running_steps Every old (server h net t) (server h end t') x s) same;
        onward = s.onward;
        there = λ before next there. there_away conn h before net end t t' next shuts there;
        kept = λ admits table before next few start config views are k. (views, views_same old new views same are, keep (beginning handler admits start config table) before views next few k);
      }

  -- the hub refused it
  pub refused : (mid new : Intakes) (n : NoteValue) (b : Server) (end : NetState) (t' : Option (List NoteValue)) → t' ≡ b.told → ChangesIntake conn.0 old mid → ChangesIntake conn.0 mid new → intake_at new conn.0 ≡ None → b.hub ≡ h
      → Makes (n ∷ []) (server h net t) b → Appends nothing (server h net t) b → Ties b → IsTable (table_of b.hub) → starts n ≡ false → Shuts conn.0 b.net end
      → KeepsAs conn h net t now (server b.hub end b.told) (λ views. views) → TakesIn (event.Accept conn) old new from (to (server b.hub end t'))
  refused mid new n b end t' told one two none same makes app ties table calm shuts keep =
      let change = shut_after conn.0 old mid new one two in
      let gone : is_present b.hub conn.0 ≡ false = ap (λ (z : HubState). is_present z conn.0) same ∙ away h conn.0 x.table fresh in
      let unkept : is_kept_at b.hub conn.0 ≡ false = ap (λ (z : HubState). is_kept_at z conn.0) same ∙ sym (x.table.kept conn.0) ∙ absent h conn.0 x.table fresh in
      let s : Steps Every (server h net t) (server b.hub end b.told) = steps_then Every (server h net t) b (server b.hub end b.told)
      (steps_makes n (server h net t) b makes app ties table (ap (λ (z : HubState). z.named) same) calm) (steps_shut conn.0 b.hub b.net end b.told shuts gone) in
      subst (λ (z : Option (List NoteValue)). TakesIn (event.Accept conn) old new from (to (server b.hub end z))) (sym told)
      (record {
        running = running_shut conn.0 old new (server b.hub end b.told) (running_steps Every old (server h net t) (server b.hub end b.told) x s) change none unkept;
        onward = s.onward;
        there = λ before next there. there_shut conn (n ∷ []) (server h before t) b net end next makes.advances shuts there;
        kept = λ admits table before next few start config views are k. (views, views_shut conn.0 old new views are change none, keep (beginning handler admits start config table) before views next few k);
      })

  -- it was accepted
  pub accepted : (new : Intakes) (b : Server) → ChangesIntake conn.0 old new → IsNew (max_of old) (intake_at new conn.0) → Arrives Taken conn.0 (server h net t) b → net.due conn.0 ≡ false → conn.0 ≤ net.named → Ties b
      → Appends nothing (server h net t) b → IsTable (table_of b.hub)
      → ((intake : Intake) → IsNew (max_of old) (Some intake) → KeepsAs conn h net t now b (with_view conn.0 (intake_view intake))) → TakesIn (event.Accept conn) old new from (to b)
  accepted new b change made arrives unasked named ties app table keep =
      let here = new_here (max_of old) (intake_at new conn.0) made in
      record {
        running = running_accepted conn.0 old new (server h net t) b x fresh change made arrives unasked named ties app table;
        onward = onward_accepted conn.0 old new (server h net t) b x fresh change made arrives unasked named ties app table;
        there = λ before next there. there_arrived conn (server h before t) b net next arrives.3.advances x.table fresh there;
        kept = λ admits routes before next few start config views are k. (
          with_view conn.0 (intake_view here.0) views,
          views_new conn.0 old new views here.0 are change here.1,
          keep here.0 here.2 (beginning handler admits start config routes) before views next few k,
        );
      }
