-- Closed events, one after another.
use Rattle.loop_runner.proofs.Below.{◌≡◌, ◌≤◌, ◌<◌, inl, ⊎_elim, ℕ, zero, suc, List, [], ◌∷◌, ◌++◌, Option, Some, None, Bool, true, false, cond, is_some, ◌||◌, refl, sym, ap, ◌∙◌, subst, arith, cases_eq, Phase, EventValue, NoteValue, IsNoted, NetState, is_accepted, is_open, accepted_more, HubState, Server, server, PartingValue, entry_of, has_entry, phase_at, Ties, nothing, Progress, progress_at, Appends, IsTable, TakesDue, table_of, told_one, told_is, due_taken, IntakeView, event_for, due_accepted, sound_closed, sound_serves, closed_given, Intakes, Every, Steps, is_kept_at, weight_of, weight_at, weight_below, Beginning, KeptAll, meaning_of, HandsOut, ServesOrders, told_none, owed_aside, TellingValue, tell_of, told_call, ◌≢◌, not, by_cases, clash, Entry, no_entry, is_gone, is_present, entry_at, counts_at, SameCounts, ticked_call}
use Rattle.ws_kinds.specs.EventValue as event
use Rattle.ws_kinds.specs.NoteValue as note
use Rattle.hub_notes.specs.Quiet.{count_of}
use Rattle.loop_runner.proofs.GrowLemmas.{grows_hub, grows_noted, grows_served, grows_then}
use Rattle.loop_runner.proofs.OpenLemmas.{opens_none, opens_served, opens_then}
use Rattle.loop_runner.proofs.KeepLemmas.{keep_on, served_ticked, served_told}
use Rattle.loop_runner.proofs.ProgressLemmas.{Stays, Calm, stays_same, calm_same, kept_by, weight_by, present_at, kept_at, reading_after, phases_read}
use Rattle.loop_runner.proofs.StepLemmas.{onward_still}

-- ---- sums over connections

below_least : (bound : ℕ) (a b : HubState) → ((c : ℕ) → weight_at b c ≤ weight_at a c) → weight_below bound b ≤ weight_below bound a
below_least zero a b each = omega arith
below_least (suc bound) a b each = let now = each bound in let rest = below_least bound a b each in omega arith

below_less : (bound c : ℕ) (a b : HubState) → c < bound → ((d : ℕ) → weight_at b d ≤ weight_at a d) → weight_at b c < weight_at a c → weight_below bound b < weight_below bound a
below_less zero c a b lt each less = absurd (omega arith)
below_less (suc bound) c a b lt each less = ⊎_elim
    (λ (same : c ≡ bound).
    let now : weight_at b bound < weight_at a bound = subst (λ (z : ℕ). weight_at b z < weight_at a z) same less in
    let rest = below_least bound a b each in omega arith)
    (λ (ne : c ≡ bound → ⊥). let now = each bound in let rest = below_less bound c a b (let k = ne in omega arith) each less in omega arith)
    (cases_eq c bound)

pub fewer_then : (a b : Server) (w : ℕ) → Steps Every a b → weight_below (suc a.hub.named) a.hub < w → weight_below (suc b.hub.named) b.hub < w
fewer_then a b w s less =
    let least = below_least (suc a.hub.named) a.hub b.hub (λ c. s.weight c (tt {0})) in
    subst (λ (z : ℕ). weight_below (suc z) b.hub < w) (sym s.named) (omega arith)

-- ---- one is handed out

kept_less : (phase : Option Phase) (due : Option (ℕ × List ℕ)) → kept_by phase None ≡ true → kept_by phase due ≡ true
kept_less None due e = absurd (let z : false ≡ true = e in cc)
kept_less (Some phase) due e = refl

no_more : (opened : Bool) (due : Option (ℕ × List ℕ)) → weight_by opened None ≤ weight_by opened due
no_more opened None = omega arith
no_more opened (Some due) = omega arith

one_less : (opened : Bool) (due : ℕ × List ℕ) → weight_by opened None < weight_by opened (Some due)
one_less opened due = omega arith

module _ (p : PartingValue) (a b : HubState) (x : TakesDue (Some p) (table_of a) (table_of b)) (pairs : b.pairs ≡ a.pairs) where
  -- its event is due no more, and else nothing changes
  by_conn : (R : Progress → Progress → Type 0) → ((q : Progress) → R q q) → ((q : Progress) → R q (record q { due = None })) → (c : ℕ) → R (progress_at a c) (progress_at b c)
  by_conn R same none c =
      let due = due_taken a b p x pairs in
      ⊎_elim
      (λ (e : c ≡ p.conn). subst (λ (z : ℕ). R (progress_at a z) (progress_at b z)) (sym e) (subst (R (progress_at a p.conn)) (sym due.1) (none (progress_at a p.conn))))
      (λ (ne : c ≡ p.conn → ⊥). subst (R (progress_at a c)) (sym (due.2 c ne)) (same (progress_at a c))) (cases_eq c p.conn)

  phase_taken : (c : ℕ) → (progress_at b c).phase ≡ (progress_at a c).phase
  phase_taken = by_conn (λ q s. s.phase ≡ q.phase) (λ q. refl) (λ q. refl)

  stays_taken : (c : ℕ) → Stays (progress_at a c) (progress_at b c)
  stays_taken = by_conn Stays stays_same (λ q. record { reading = λ r. r; kept = kept_less q.phase q.due })

  calm_taken : (c : ℕ) → Calm (progress_at a c) (progress_at b c)
  calm_taken = by_conn Calm calm_same (λ q. record { phase = λ r. inl refl; weight = no_more (is_open q.phase) q.due })

  pub steps_taken : (net : NetState) (t : Option (List NoteValue)) → b.tellings ≡ a.tellings → Appends nothing (server a net t) (server b net t) → (Ties (server a net t) → Ties (server b net t)) → IsTable (table_of b) → Steps Every (server a net t) (server b net t)
  steps_taken net t tellings app ties table = record {
    onward = onward_still a b net net t (grows_hub a b net t) (omega arith) (λ _. refl) (omega arith)
        (owed_aside [] (server a net t) (server b net t) (told_none t) (let same = x.4.named in omega arith) phase_taken (λ c. ap (λ (z : List TellingValue). tell_of z c) tellings));
    config = app.lines.config;
    named = x.4.named;
    net_named = refl;
    table = λ _. table;
    ties = ties;
    short = app.short;
    waits = app.waits;
    there = λ there c live. present_at b c ∙ ap is_some (phase_taken c) ∙ sym (present_at a c) ∙ there c live;
    kept = λ c k. kept_at a c ∙ (stays_taken c).kept (sym (kept_at b c) ∙ k);
    reading = λ c. reading_after c a b (stays_taken c);
    due = λ c _ r. refl;
    phase = λ c _. phases_read c a b (calm_taken c);
    weight = λ c _. (calm_taken c).weight;
  }

  or_true : (b : Bool) → (b || true) ≡ true
  or_true true = refl
  or_true false = refl

  -- its connection is an entry
  pub taken_was : is_kept_at a p.conn ≡ true
  taken_was = kept_at a p.conn ∙ ap (λ (z : Option (ℕ × List ℕ)). kept_by (progress_at a p.conn).phase z) x.0 ∙ or_true (is_some (progress_at a p.conn).phase)

  taken_less : weight_at b p.conn < weight_at a p.conn
  taken_less =
      let due = due_taken a b p x pairs in
      let after : weight_at b p.conn ≡ weight_by (is_open (progress_at a p.conn).phase) None = ap weight_of due.1 in
      let before : weight_at a p.conn ≡ weight_by (is_open (progress_at a p.conn).phase) (Some (p.code, p.reason)) = ap (λ (z : Option (ℕ × List ℕ)). weight_by (is_open (progress_at a p.conn).phase) z) x.0 in
      let less = one_less (is_open (progress_at a p.conn).phase) (p.code, p.reason) in
      omega arith

  pub taken_fewer : IsTable (table_of a) → weight_below (suc b.named) b < weight_below (suc a.named) a
  taken_fewer table =
      let within : p.conn ≤ a.named = table.named p.conn (table.kept p.conn ∙ taken_was) in
      subst (λ (z : ℕ). weight_below (suc z) b < weight_below (suc a.named) a) (sym x.4.named)
      (below_less (suc a.named) p.conn a b (omega arith) (λ c. (calm_taken c).weight) taken_less)

phase_some : (has : Bool) (phase : Phase) → is_some (cond has (Some phase) None) ≡ has
phase_some true phase = refl
phase_some false phase = refl

-- a connection has a phase exactly where it is an entry
pub kept_phase : (h : HubState) (c : ℕ) → IsTable (table_of h) → is_some (phase_at h c) ≡ is_kept_at h c
kept_phase h c table = phase_some (has_entry h.entries c) (entry_of h.entries c).phase ∙ table.kept c

-- ---- what is counted of those who are there, as a Closed event is taken

same_entry : (h k : HubState) (c : ℕ) → entry_at k c ≡ entry_at h c → is_present k c ≡ true → (is_present h c ≡ true) × (counts_at k c ≡ counts_at h c)
same_entry h k c e there = (ap (λ (z : Entry). not (is_gone z.phase)) (sym e) ∙ there, ap (λ (z : Entry). count_of z.quiet) e)

counts_taken : (p : PartingValue) (h k : HubState) → TakesDue (Some p) (table_of h) (table_of k) → SameCounts h k
counts_taken p h k x c there = ⊎_elim
    (λ (q : c ≡ p.conn).
    let own : entry_at k c ≡ cond (is_gone (entry_at h c).phase) no_entry (entry_at h c) =
    subst (λ (z : ℕ). entry_at k z ≡ cond (is_gone (entry_at h z).phase) no_entry (entry_at h z)) (sym q) x.3 in
    by_cases (is_gone (entry_at h c).phase)
    (λ gone. clash (is_present k c) (ap (λ (z : Entry). not (is_gone z.phase)) (own ∙ ap (λ (z : Bool). cond z no_entry (entry_at h c)) gone)) there)
    (λ stays. same_entry h k c (own ∙ ap (λ (z : Bool). cond z no_entry (entry_at h c)) stays) there))
    (λ (ne : c ≢ p.conn). same_entry h k c (x.4.entries c ne) there)
    (cases_eq c p.conn)

-- ---- what is kept where it is given

module _ {S : Type 0} (b : Beginning S) (parting : PartingValue) (intakes : Intakes) (hub : HubState) (s d : Server) (t : Option (List NoteValue)) (now next : S) (views : ℕ → IntakeView) (given : EventValue)
    (out : HandsOut parting intakes hub s) (noted : IsNoted s.told (note.closed parting.conn parting.code parting.reason) t) where
  pub keep_closed : given ≡ event_for parting.conn (views parting.conn) (event.closed parting.code parting.reason) → next ≡ b.after now given
      → ServesOrders b.admits parting.conn (b.said next given) (server s.hub s.net t) d → IsTable (table_of d.hub) → KeptAll b (server hub s.net s.told) now views None → KeptAll b d next views None
  keep_closed event_is state served whole =
      let conn = parting.conn in
      let n : NoteValue = note.closed parting.conn parting.code parting.reason in
      let a : Server = server hub s.net s.told in
      let m : Server = server s.hub s.net t in
      keep_on b a d now next views views None None
      (grows_then a s d (grows_hub hub s.hub s.net s.told) (grows_then s m d (grows_noted n s.hub s.hub s.net s.told t noted) (grows_served b.admits conn (b.said next given) m d served)))
      (opens_then a m d (grows_served b.admits conn (b.said next given) m d served) (opens_none (n ∷ []) a m (told_one s.told t n noted) (λ c. refl)) (opens_served b.admits conn (b.said next given) m d served))
      (λ replies ns ms was tells told agree few x.
      let r = meaning_of b replies in
      let earlier = (grows_served b.admits conn (b.said next given) m d served).told ms told in
      let told_m : t ≡ Some (ns ++ n ∷ []) = told_is ns (n ∷ []) earlier.0 s.told t (told_one s.told t n noted) was earlier.2 in
      let first = sound_closed r b.config ns conn parting.code parting.reason a m x.kept.agrees out.taken.0 (phase_taken parting hub s.hub out.taken out.pairs) x.sound in
      let accepted : is_accepted conn (ns ++ n ∷ []) ≡ true = accepted_more conn ns (n ∷ []) (due_accepted r ns a x.kept.agrees conn (parting.code, parting.reason) out.taken.0) in
      record {
        kept = (closed_given r b.config b.table ns ms parting given a s m d now next views x.kept out.taken out.pairs out.appends refl refl refl refl (told_one s.told t n noted) event_is state served told x.whole whole).1;
        sound = (sound_serves r b.config _ _ conn 0 (b.said next given) (ns ++ n ∷ []) ms m d served told_m told first.1 accepted first.0).0;
        whole = whole;
        told = served_told b replies (ns ++ n ∷ []) ms conn (b.said next given) m d served told_m told
            (told_call r ns (n ∷ []) hub s.hub refl refl (λ _ c. ap (λ (z : List TellingValue). tell_of z c) out.tellings) x.told);
        ticked = served_ticked b replies (ns ++ n ∷ []) ms conn (b.said next given) m d served told_m told
            (ticked_call r ns (n ∷ []) hub s.hub refl refl (λ _. counts_taken parting hub s.hub out.taken) out.appends.lines.config x.ticked);
      })
