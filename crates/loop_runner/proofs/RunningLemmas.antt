-- What holds within a turn, step after step.
use Rattle.loop_runner.proofs.Below.{◌≡◌, ◌≤◌, inl, inr, ⊎_elim, ℕ, List, [], ◌∷◌, length, Option, Some, None, true, false, not, is_some, refl, sym, ap, ◌∙◌, subst, arith, cases_eq, Phase, Head, Open, Leaving, Ending, Gone, NoteValue, NetState, Frees, is_reading, Reader, HubState, Entry, Server, server, entry_of, has_entry, is_gone, phase_at, due_at, Settled, by_cases, clash, or_right, IsTable, table_of, Intake, Intakes, max_of, intake_at, is_admitted, ChangesIntake, SameIntakes, IsTaken, IsAsked, Ready, Every, But, StaysOrLeaves, StepsWith, Takes, Running, is_kept_at, OffersIfThere}
use Rattle.loop_runner.proofs.StepLemmas.{steps_freed, waits_freed}
use Rattle.frame_reader.specs.Reader as reader
use Rattle.link_trait.specs.Net.{SameLinks}
use Rattle.loop_runner.proofs.ProgressLemmas.{read_kept}
use Rattle.loop_runner.proofs.ViewLemmas.{Written, none_some, same_some}

-- ---- what was taken, in the phase afterwards

-- of a connection that is not read nothing is asked
pub taken_away : (phase : Option Phase) (r : Reader) → is_reading phase ≡ false → IsTaken phase r
taken_away None r e = tt {0}
taken_away (Some Head) r e = clash true e refl
taken_away (Some Open) r e = clash true e refl
taken_away (Some Leaving) r e = clash true e refl
taken_away (Some Ending) r e = tt {0}
taken_away (Some Gone) r e = tt {0}

taken_stays : (from to : Option Phase) (r : Reader) → StaysOrLeaves from to → IsTaken from r → IsTaken to r
taken_stays from to r (inl same) t = subst (λ (z : Option Phase). IsTaken z r) (sym same) t
taken_stays from to r (inr left) t = subst (λ (z : Option Phase). IsTaken z r) (sym left.1) (subst (λ (z : Option Phase). IsTaken z r) left.0 t)

taken_as : (from to : Option Phase) (r : Reader) → (is_reading to ≡ true → StaysOrLeaves from to) → IsTaken from r → IsTaken to r
taken_as from to r same t = by_cases (is_reading to) (λ reads. taken_stays from to r (same reads) t) (taken_away to r)

-- ---- one step

pub running_steps : {count owed : ℕ} (P : ℕ → Type 0) (intakes : Intakes) (a b : Server) → Running P intakes a → StepsWith count owed P a b → Running P intakes b
running_steps P intakes a b x s = record {
  max = ap (λ z. z.max_message) s.config ∙ x.max;
  kept = λ c k. x.kept c (s.kept c k);
  table = s.table x.table;
  ties = s.ties x.ties;
  named = subst (λ (z : ℕ). z ≤ b.net.named) (sym s.named) (subst (λ (z : ℕ). a.hub.named ≤ z) (sym s.net_named) x.named);
  short = s.short x.short;
  waits = s.waits x.waits;
  readers = x.readers;
  asked = λ c p r. s.due c p r ∙ x.asked c p (s.reading c r);
  taken = λ c p intake at. taken_as (phase_at a.hub c) (phase_at b.hub c) intake.reader (s.phase c p) (x.taken c p intake at);
}

-- ---- one connection that was read

-- what holds of all but one, and of that one too
running_all : (conn : ℕ) (intakes : Intakes) (s : Server) → Running (But conn) intakes s → IsAsked conn s
    → ((intake : Intake) → intake_at intakes conn ≡ Some intake → IsTaken (phase_at s.hub conn) intake.reader) → Running Every intakes s
running_all conn intakes s x asked taken = record {
  max = x.max;
  kept = x.kept;
  table = x.table;
  ties = x.ties;
  named = x.named;
  short = x.short;
  waits = x.waits;
  readers = x.readers;
  asked = λ c _. ⊎_elim (λ (same : c ≡ conn). subst (λ (z : ℕ). IsAsked z s) (sym same) asked) (λ (ne : c ≡ conn → ⊥). x.asked c ne) (cases_eq c conn);
  taken = λ c _ intake at. ⊎_elim
      (λ (same : c ≡ conn). subst (λ (z : ℕ). IsTaken (phase_at s.hub z) intake.reader) (sym same) (taken intake (ap (intake_at intakes) (sym same) ∙ at)))
      (λ (ne : c ≡ conn → ⊥). x.taken c ne intake at) (cases_eq c conn);
}

-- of a connection that is not read nothing more is asked
pub running_away : (conn : ℕ) (intakes : Intakes) (s : Server) → Running (But conn) intakes s → is_reading (phase_at s.hub conn) ≡ false → Running Every intakes s
running_away conn intakes s x away =
    running_all conn intakes s x (λ r. clash (is_reading (phase_at s.hub conn)) away r) (λ intake at. taken_away (phase_at s.hub conn) intake.reader away)

-- a connection without an intake is not read
pub unread_away : (P : ℕ → Type 0) (conn : ℕ) (intakes : Intakes) (s : Server) → Running P intakes s → intake_at intakes conn ≡ None → is_reading (phase_at s.hub conn) ≡ false
unread_away P conn intakes s x none = by_cases (is_reading (phase_at s.hub conn))
    (λ r. clash (is_admitted intakes conn) (ap is_some none) (x.kept conn (read_kept s.hub conn r)))
    (λ away. away)

-- ---- other intakes

-- each of them was there
running_fewer : (P : ℕ → Type 0) (old new : Intakes) (s : Server) → Running P old s → max_of new ≡ max_of old → ((c : ℕ) → is_kept_at s.hub c ≡ true → is_admitted new c ≡ true)
    → ((c : ℕ) (intake : Intake) → intake_at new c ≡ Some intake → intake_at old c ≡ Some intake) → Running P new s
running_fewer P old new s x max kept was = record {
  max = x.max ∙ sym max;
  kept = kept;
  table = x.table;
  ties = x.ties;
  named = x.named;
  short = x.short;
  waits = x.waits;
  readers = λ c intake at. x.readers c intake (was c intake at) ∙ sym max;
  asked = x.asked;
  taken = λ c p intake at. x.taken c p intake (was c intake at);
}

pub running_same : (P : ℕ → Type 0) (old new : Intakes) (s : Server) → Running P old s → SameIntakes old new → Running P new s
running_same P old new s x same = running_fewer P old new s x same.max (λ c k. ap is_some (same.all c) ∙ x.kept c k) (λ c intake at. sym (same.all c) ∙ at)

-- the intake of a connection that is no entry was shut
pub running_shut : (conn : ℕ) (old new : Intakes) (s : Server) → Running Every old s → ChangesIntake conn old new → intake_at new conn ≡ None → is_kept_at s.hub conn ≡ false → Running Every new s
running_shut conn old new s x change none away = running_fewer Every old new s x change.max
    (λ c k. ⊎_elim
    (λ (same : c ≡ conn). clash (is_kept_at s.hub conn) away (ap (is_kept_at s.hub) (sym same) ∙ k))
    (λ (ne : c ≡ conn → ⊥). ap is_some (change.others c ne) ∙ x.kept c k) (cases_eq c conn))
    (λ c intake at. ⊎_elim
    (λ (same : c ≡ conn). absurd (none_some (intake_at new conn) intake none (ap (intake_at new) (sym same) ∙ at)))
    (λ (ne : c ≡ conn → ⊥). sym (change.others c ne) ∙ at) (cases_eq c conn))

-- each connection that is no entry was shut
pub running_tidied : (P : ℕ → Type 0) (old new : Intakes) (s : Server) → Running P old s → ((c : ℕ) → has_entry s.hub.entries c ≡ is_admitted new c) → max_of new ≡ max_of old
    → ((c : ℕ) → has_entry s.hub.entries c ≡ true → intake_at new c ≡ intake_at old c) → Running P new s
running_tidied P old new s x exact max same = running_fewer P old new s x max (λ c k. sym (exact c) ∙ x.table.kept c ∙ k) (λ c intake at. sym (same c (exact c ∙ ap is_some at)) ∙ at)

-- one intake was written, and octets of its connection were taken
pub running_written : (conn : ℕ) (old new : Intakes) (was now : Intake) (a b : Server) → Running (But conn) old a → Takes conn was.reader now.reader a b → max_of new ≡ max_of old → Written conn now old new
    → intake_at old conn ≡ Some was → Running Every new b
running_written conn old new was now a b before t max w at =
    let x = running_steps (But conn) old a b before t.steps in
    running_all conn new b
    (record {
      max = x.max ∙ sym max;
      kept = λ c k. ⊎_elim
          (λ (e : c ≡ conn). ap is_some (ap (intake_at new) e ∙ w.here))
          (λ (ne : c ≡ conn → ⊥). ap is_some (w.others c ne) ∙ x.kept c k) (cases_eq c conn);
      table = x.table;
      ties = x.ties;
      named = x.named;
      short = x.short;
      waits = x.waits;
      readers = λ c intake is. ⊎_elim
          (λ (e : c ≡ conn). ap (λ (z : Intake). reader.max_of z.reader) (same_some intake now (sym is ∙ ap (intake_at new) e ∙ w.here)) ∙ t.max ∙ x.readers conn was at ∙ sym max)
          (λ (ne : c ≡ conn → ⊥). x.readers c intake (sym (w.others c ne) ∙ is) ∙ sym max) (cases_eq c conn);
      asked = x.asked;
      taken = λ c ne intake is. x.taken c ne intake (sym (w.others c ne) ∙ is);
    })
    t.asked
    (λ intake is. subst (λ (z : Intake). IsTaken (phase_at b.hub conn) z.reader) (same_some now intake (sym w.here ∙ is)) t.taken)

-- octets can be sent again, and then what is held is offered, where the connection is there
pub running_freed : (conn : ℕ) (intakes : Intakes) (h : HubState) (a n : NetState) (t : Option (List NoteValue)) (b : Server) → Running Every intakes (server h a t) → Frees conn a n → OffersIfThere conn (server h n t) b
    → Running Every intakes b
running_freed conn intakes h a n t b x free offers =
    let s = steps_freed conn (server h n t) b offers in
    record {
      max = ap (λ z. z.max_message) s.config ∙ x.max;
      kept = λ c k. x.kept c (s.kept c k);
      table = s.table x.table;
      ties = s.ties (λ c there. free.live c ∙ x.ties c there);
      named = subst (λ (z : ℕ). z ≤ b.net.named) (sym s.named) (subst (λ (z : ℕ). h.named ≤ z) (sym (s.net_named ∙ free.named)) x.named);
      short = s.short x.short;
      waits = waits_freed conn (server h n t) b offers (λ c ne there holds. free.writable_elsewhere c ne ∙ x.waits c there holds);
      readers = x.readers;
      asked = λ c p r. s.due c p r ∙ free.due c ∙ x.asked c p (s.reading c r);
      taken = λ c p intake at. taken_as (phase_at h c) (phase_at b.hub c) intake.reader (s.phase c p) (x.taken c p intake at);
    }

-- time went by, and then the hub counted that
pub running_ticked : (intakes : Intakes) (h : HubState) (a n : NetState) (t : Option (List NoteValue)) (b : Server) → Running Every intakes (server h a t) → SameLinks a n → StepsWith 0 0 Every (server h n t) b → Running Every intakes b
running_ticked intakes h a n t b x links s = running_steps Every intakes (server h n t) b
    (record {
      max = x.max;
      kept = x.kept;
      table = x.table;
      ties = λ c there. links.live c ∙ x.ties c there;
      named = subst (λ (z : ℕ). h.named ≤ z) (sym links.named) x.named;
      short = x.short;
      waits = λ c there holds. links.writable c ∙ x.waits c there holds;
      readers = x.readers;
      asked = λ c p r. links.due c ∙ x.asked c p r;
      taken = x.taken;
    })
    s

-- ---- how a turn begins and ends

pub running_begun : (intakes : Intakes) (s : Server) → Ready intakes s → IsTable (table_of s.hub) → Running Every intakes s
running_begun intakes s x whole = record {
  max = x.max;
  kept = λ c k. sym (x.entries c) ∙ whole.kept c ∙ k;
  table = whole;
  ties = x.ties;
  named = x.named;
  short = x.short;
  waits = x.waits;
  readers = x.readers;
  asked = λ c _. x.asked c;
  taken = λ c _. x.taken c;
}

pub ready_of : (intakes : Intakes) (s : Server) → Running Every intakes s → ((c : ℕ) → has_entry s.hub.entries c ≡ is_admitted intakes c) → Settled s.hub → Ready intakes s
ready_of intakes s x exact settled = record {
  max = x.max;
  entries = exact;
  ties = x.ties;
  named = x.named;
  settled = settled;
  short = x.short;
  waits = x.waits;
  asked = λ c. x.asked c (tt {0});
  readers = x.readers;
  taken = λ c. x.taken c (tt {0});
}

-- where nobody is an entry, no Closed event is due
pub none_due : (h : HubState) (c : ℕ) → IsTable (table_of h) → length h.entries ≡ 0 → due_at h c ≡ None
none_due h c table none = no_due (due_at h c) (or_right (not (is_gone (entry_of h.entries c).phase)) (is_some (due_at h c)) (sym (table.kept c) ∙ no_entry h.entries none))
  where
    no_entry : (entries : List Entry) → length entries ≡ 0 → has_entry entries c ≡ false
    no_entry [] e = refl
    no_entry (first ∷ rest) e = absurd (omega (arith, e))

    no_due : (x : Option (ℕ × List ℕ)) → is_some x ≡ false → x ≡ None
    no_due None e = refl
    no_due (Some closed) e = clash true e refl
