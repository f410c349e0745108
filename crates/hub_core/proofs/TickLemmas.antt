-- Connections whose ticks are counted.
use Rattle.hub_core.proofs.Below.{◌≡◌, ◌≢◌, ◌≤◌, ◌+◌, ℕ, List, ◌∷◌, [], Option, Some, None, Bool, true, false, cond, if◌then◌else◌, not, is_some, ◌||◌, nat_tests, nat_eq, refl, sym, ap, ◌∙◌, subst, inl, arith, and_left, by_cases, none_of, list_all, clash, falsely, NoteValue, given, Phase, Head, Leaving, Ending, Gone, Open, ConfigValue, QuietCount, one_heard, is_uncounted, is_leaving, is_open, tell_by_all, HubState, Entry, Quiet, Server, server, entry_at, entry_of, has_entry, is_gone, is_present, phase_at, is_reading, present_entry, due_at, cork_at, pending_at, held_at, SameElsewhere, Ties, nothing, Appends, Advances, Makes, progress_at, progress_after_all, may_all_come, due_of, topics_of, unless_gone, TableState, IsTable, table_of, ChangesOne, ChangesHub, CountsBy, CountsOne, count_of, counts_at, leaves_at, next_count, ping_due_at, end_due_at, tell_at, IsHub, hub_of, may_hold, Recounts, TellingsState, NetState, Progress, standings_at}
use Rattle.hub_core.proofs.StateLemmas.{change_elsewhere, change_named, change_progress, entry_changed, entry_kept, phase_there, progress_same, same_or_not, table_change}
use Rattle.hub_core.proofs.NoteLemmas.{Still, still_of}
use Rattle.hub_core.proofs.CallLemmas.{Stays}
use Rattle.hub_core.proofs.StandLemmas.{present_open}

same_number : (d c : ℕ) → d ≡ c → nat_eq d c ≡ true
same_number d c e = grind (arith, nat_tests)

other_number : (d c : ℕ) → d ≢ c → nat_eq d c ≡ false
other_number d c ne = grind (arith, nat_tests)

module _ {c : ℕ} {q : QuietCount} {a b : HubState} (r : Recounts c q a b) where
  phase_is : (entry_at b c).phase ≡ (entry_at a c).phase
  phase_is = ap (λ (z : Entry). z.phase) r.entry

  pub progress_recounted : (d : ℕ) → progress_at b d ≡ progress_at a d
  progress_recounted d = same_or_not c d
      (λ e. subst (λ (z : ℕ). progress_at b z ≡ progress_at a z) (sym e) (progress_same a b c phase_is r.topics r.due))
      (λ ne. change_progress r.change d ne)

  pub present_recounted : (d : ℕ) → is_present b d ≡ is_present a d
  present_recounted d = same_or_not c d
      (λ e. subst (λ (z : ℕ). is_present b z ≡ is_present a z) (sym e) (ap (λ (z : Phase). not (is_gone z)) phase_is))
      (λ ne. ap (λ (z : Entry). not (is_gone z.phase)) (r.change.table.entries d ne))

  tells_recounted : (d : ℕ) → tell_at b d ≡ tell_at a d
  tells_recounted d = same_or_not c d (λ e. subst (λ (z : ℕ). tell_at b z ≡ tell_at a z) (sym e) r.tells) (λ ne. r.change.tells d ne)

  held_recounted : held_at b c ≡ held_at a c
  held_recounted =
      ap (λ (z : Entry). record { numbered = z.numbered; ring = z.ring; cork = cork_at b c; pending = pending_at b c }) r.entry
      ∙ ap (λ (z : List ℕ). record { numbered = (entry_at a c).numbered; ring = (entry_at a c).ring; cork = z; pending = pending_at b c }) r.cork
      ∙ ap (λ (z : List (List ℕ)). record { numbered = (entry_at a c).numbered; ring = (entry_at a c).ring; cork = cork_at a c; pending = z }) r.pending

  pub stays_recounted : Stays a b
  stays_recounted = record {
    config = r.change.table.config;
    named = let h = change_named r.change in omega arith;
    gone = λ d. same_or_not c d
        (λ e. subst (λ (z : ℕ). is_gone (entry_at b z).phase ≡ is_gone (entry_at a z).phase) (sym e) (ap is_gone phase_is))
        (λ ne. ap (λ (z : Entry). is_gone z.phase) (r.change.table.entries d ne));
    still = λ d _. same_or_not c d
        (λ e. subst (λ (z : ℕ). Still a b z) (sym e) (record { held = held_recounted; gone = ap is_gone phase_is }))
        (λ ne. still_of c a b r.change d ne);
  }

  counts_elsewhere : (d : ℕ) → d ≢ c → counts_at b d ≡ counts_at a d
  counts_elsewhere d ne = ap (λ (z : Entry). count_of z.quiet) (r.change.table.entries d ne)

  -- a note of it that says that octets were read, of which it is told besides
  pub makes_recounted : (n : NoteValue) (net : NetState) (t : Option (List NoteValue)) (d : Server) → is_uncounted n ≡ false → Makes (n ∷ []) (server b net t) d → Makes (n ∷ []) (server a net t) d
  makes_recounted n net t d counted x = record {
    advances = record {
      told = x.advances.told;
      may_come = λ k. subst (λ (z : Progress). may_all_come k (n ∷ []) z ≡ true) (progress_recounted k) (x.advances.may_come k);
      progress = λ k. x.advances.progress k ∙ ap (progress_after_all k (n ∷ [])) (progress_recounted k);
      tells = λ e k. x.advances.tells e k ∙ ap (tell_by_all k (n ∷ [])) (tells_recounted k);
      counts = λ e. clash (is_uncounted n) counted (and_left (is_uncounted n) true e);
      net = x.advances.net;
    };
    fails = x.fails;
  }

-- octets of it were read
pub counts_given : {c : ℕ} {a b : HubState} (n : ℕ) → Recounts c (one_heard (leaves_at a c) (counts_at a c)) a b → CountsBy (given c n) a b
counts_given {c} {a} {b} n r d there = (
  inl (sym (present_recounted r d) ∙ there),
  same_or_not c d
      (λ e. subst (λ (z : ℕ). counts_at b z ≡ cond (nat_eq c z) (one_heard (leaves_at a z) (counts_at a z)) (counts_at a z)) (sym e)
      (r.counts_are ∙ sym (ap (λ (k : Bool). cond k (one_heard (leaves_at a c) (counts_at a c)) (counts_at a c)) (same_number c c refl))))
      (λ ne. counts_elsewhere r d ne ∙ sym (ap (λ (k : Bool). cond k (one_heard (leaves_at a d) (counts_at a d)) (counts_at a d)) (other_number c d (λ e. ne (sym e))))),
)

-- one more tick of it was counted
pub counts_one : {c : ℕ} {a b : HubState} → Recounts c (next_count (leaves_at a c) (counts_at a c)) a b → (net : NetState) (t : Option (List NoteValue)) → Appends nothing (server a net t) (server b net t) → CountsOne c (server a net t) (server b net t)
counts_one {c} {a} {b} r net t appends = record {
  progress = progress_recounted r;
  counts = λ d. same_or_not c d
      (λ e. subst (λ (z : ℕ). counts_at b z ≡ cond (nat_eq z c) (next_count (leaves_at a z) (counts_at a z)) (counts_at a z)) (sym e)
      (r.counts_are ∙ sym (ap (λ (k : Bool). cond k (next_count (leaves_at a c) (counts_at a c)) (counts_at a c)) (same_number c c refl))))
      (λ ne. counts_elsewhere r d ne ∙ sym (ap (λ (k : Bool). cond k (next_count (leaves_at a d) (counts_at a d)) (counts_at a d)) (other_number d c ne)));
  tells = tells_recounted r;
  net = refl;
  told = refl;
  appends = appends;
}

pub elsewhere_recounted : {c : ℕ} {q : QuietCount} {a b : HubState} → Recounts c q a b → IsTable (table_of a) → SameElsewhere c a b
elsewhere_recounted {c} {q} {a} {b} r was = change_elsewhere r.change (entry_kept c (table_of a) (table_of b) r.change.table was r.table)

-- its phase is as it was
pub phase_recounted : {c : ℕ} {q : QuietCount} {a b : HubState} → Recounts c q a b → IsTable (table_of a) → phase_at b c ≡ phase_at a c
phase_recounted {c} {q} {a} {b} r was =
    ap (λ (z : Bool). cond z (Some (entry_at b c).phase) None) (has_recounted r was) ∙ ap (λ (z : Phase). cond (has_entry a.entries c) (Some z) None) (phase_is r)
  where
    has_recounted : {c : ℕ} {q : QuietCount} {a b : HubState} → Recounts c q a b → IsTable (table_of a) → has_entry b.entries c ≡ has_entry a.entries c
    has_recounted {c} {q} {a} {b} r was =
        r.table.kept c
        ∙ ap (λ (z : Phase). not (is_gone z) || is_some (due_at b c)) (phase_is r)
        ∙ ap (λ (z : Option (ℕ × List ℕ)). not (is_gone (entry_at a c).phase) || is_some z) r.due
        ∙ sym (was.kept c)

-- one of which octets are read is there
pub reading_there : (h : HubState) (c : ℕ) → is_reading (phase_at h c) ≡ true → is_present h c ≡ true
reading_there h c e = there_by (has_entry h.entries c) (entry_at h c).phase e
  where
    there_by : (has : Bool) (p : Phase) → is_reading (cond has (Some p) None) ≡ true → not (is_gone p) ≡ true
    there_by true Gone e = clash false refl e
    there_by true Head e = refl
    there_by true Open e = refl
    there_by true Leaving e = refl
    there_by true Ending e = refl
    there_by false p e = clash false refl e

-- ---- as long as nothing is corked or pending

pub plain_recounts : {c : ℕ} {a b : TableState} {q : Quiet} {k : QuietCount} (p : List (ℕ × List ℕ)) (r : TellingsState) → entry_of b.entries c ≡ record (entry_of a.entries c) { quiet = q } → count_of q ≡ k → due_of b.partings c ≡ due_of a.partings c
    → ChangesOne c a b → IsTable b → Recounts c k (hub_of a p r) (hub_of b p r)
plain_recounts {c} {a} {b} {q} {k} p r entry counts due change table = record {
  counts_are = ap (λ (z : Entry). count_of z.quiet) entry ∙ counts;
  entry = entry ∙ ap (λ (z : Quiet). record (entry_of a.entries c) { quiet = z }) (sym (ap (λ (z : Entry). z.quiet) entry));
  due = due;
  cork = refl;
  pending = refl;
  topics = refl;
  tells = refl;
  change = table_change p r change;
  table = table;
}

pub hub_recounted : {c : ℕ} {a b : TableState} {q : Quiet} {p : List (ℕ × List ℕ)} {r : TellingsState} → IsHub a p r → entry_of b.entries c ≡ record (entry_of a.entries c) { quiet = q } → ChangesOne c a b → IsTable b → IsHub b p r
hub_recounted {c} {a} {b} {q} {p} {r} was is change table = entry_changed was table change.config change.entries
    (λ off. was.topics c (ap (λ (z : Entry). is_open (Some z.phase)) (sym is) ∙ off))
    (λ off. was.rows c (ap (λ (z : Entry). may_hold z.phase) (sym is) ∙ off))
    (λ some. was.held c (λ none. some (ap (λ (z : Entry). z.ring) is ∙ none)))

-- who is not gone leaves as its phase says
there : (h : HubState) (c : ℕ) → is_present h c ≡ true → unless_gone (Some (entry_at h c).phase) ≡ Some (entry_at h c).phase
there h c e = phase_there (entry_at h c).phase (falsely (is_gone (entry_at h c).phase) e)

pub ticks_as : (h : HubState) (c : ℕ) → is_present h c ≡ true → next_count (is_leaving (Some (entry_at h c).phase)) (counts_at h c) ≡ next_count (leaves_at h c) (counts_at h c)
ticks_as h c e = ap (λ (z : Option Phase). next_count (is_leaving z) (counts_at h c)) (sym (there h c e))

heard_then : (k : Bool) (x : Quiet) → count_of (if k then x else record { ticks = 0; leaving = x.leaving }) ≡ one_heard k (count_of x)
heard_then true x = refl
heard_then false x = refl

pub heard_as : (h : HubState) (c : ℕ) → is_present h c ≡ true → count_of (if is_leaving (Some (entry_at h c).phase) then (entry_at h c).quiet else record { ticks = 0; leaving = (entry_at h c).quiet.leaving }) ≡ one_heard (leaves_at h c) (counts_at h c)
heard_as h c e = heard_then (is_leaving (Some (entry_at h c).phase)) (entry_at h c).quiet ∙ ap (λ (z : Option Phase). one_heard (is_leaving z) (counts_at h c)) (sym (there h c e))

pub due_as : (due : ConfigValue → Option Phase → QuietCount → Bool) (h : HubState) (c : ℕ) → is_present h c ≡ true → due h.config (Some (entry_at h c).phase) (counts_at h c) ≡ due h.config (standings_at h c).phase (counts_at h c)
due_as due h c e = ap (λ (z : Option Phase). due h.config z (counts_at h c)) (sym (there h c e))

-- a ping is due for one that is open alone
pub ping_open : (h : HubState) (c : ℕ) → ping_due_at h c ≡ true → is_open (standings_at h c).phase ≡ true
ping_open h c e = and_left (is_open (standings_at h c).phase) (nat_eq ((counts_at h c).ticks + 1) h.config.ping_after) e

open_of : (p : Phase) → is_open (unless_gone (Some p)) ≡ true → p ≡ Open
open_of Open e = refl
open_of Head e = clash false refl e
open_of Leaving e = clash false refl e
open_of Ending e = clash false refl e
open_of Gone e = clash false refl e

pub open_there : (h : HubState) (c : ℕ) → is_open (standings_at h c).phase ≡ true → phase_at h c ≡ Some Open
open_there h c e =
    ap (λ (z : Bool). cond z (Some (entry_at h c).phase) None) (present_entry h.entries c (present_open h c e))
    ∙ ap (λ (z : Phase). Some z) (open_of (entry_at h c).phase e)

-- number 0 is no connection
pub none_there : {a : TableState} (p : List (ℕ × List ℕ)) (r : TellingsState) → IsTable a → is_present (hub_of a p r) 0 ≡ false
none_there {a} p r table = by_cases (has_entry a.entries 0)
    (λ has. absurd (let l = table.first 0 has in omega arith))
    (λ none. ap (λ (z : Entry). not (is_gone z.phase)) (none_of a.entries 0 none))
