-- What steps make of a connection that was accepted before them.
use Rattle.loop_runner.proofs.Below.{◌≡◌, ◌≤◌, ◌+◌, inl, inr, ℕ, List, [], ◌∷◌, Option, Some, None, Bool, true, false, cond, not, is_some, nat_eq, ◌&&◌, ◌||◌, refl, sym, ap, ◌∙◌, subst, arith, list_any, Phase, Head, Open, Leaving, Ending, Gone, NoteValue, OrderValue, send, subscribe, unsubscribe, publish, close, is_of, is_acceptance, is_gone_in, moved, closing, is_open, leaves_open, cause_of, topics_left, with_topic, without_topic, unless_gone, is_reading, Step, by_note, by_order, notes_of, of_notes, notes_of-notes, HubState, entry_at, is_present, has_entry, phase_at, Progress, due_at, progress_at, progress_by, progress_after, progress_after_all, progress_obeys, progress_by_steps, by_cases, clash, or_left, or_right, and_true, stays_live, StaysOrLeaves, weight_of, is_kept_at, open_shown, steps_of_notes, own, other, reading_at, Entry, entry_of}
use Rattle.ws_kinds.specs.NoteValue as note
use Rattle.run_meaning.specs.Notes.{is_gone}
use Rattle.hub_lines.specs.State as hub

-- the note says that a connection was accepted or is open
abbrev pub begins : NoteValue → Bool
begins (note.accepted conn) = true
begins (note.opened conn route param) = true
begins _ = false

-- and it is this one
abbrev pub begins_of : ℕ → NoteValue → Bool
begins_of conn n = begins n && is_of conn n

abbrev pub kept_by : Option Phase → Option (ℕ × List ℕ) → Bool
kept_by phase due = is_some phase || is_some due

abbrev kept_of : Progress → Bool
kept_of p = kept_by p.phase p.due

-- ---- a connection before and after

-- it is read, or an entry, only if it was before
pub record Stays (old new : Progress) : Type 0 where
  pub reading : is_reading new.phase ≡ true → is_reading old.phase ≡ true
  pub kept : kept_of new ≡ true → kept_of old ≡ true

-- it did not become open
pub record Calm (old new : Progress) : Type 0 where
  pub phase : is_reading new.phase ≡ true → StaysOrLeaves old.phase new.phase
  pub weight : weight_of new ≤ weight_of old

pub stays_same : (p : Progress) → Stays p p
stays_same p = record { reading = λ r. r; kept = λ k. k }

stays_then : (p q s : Progress) → Stays p q → Stays q s → Stays p s
stays_then p q s x y = record { reading = λ r. x.reading (y.reading r); kept = λ k. x.kept (y.kept k) }

pub calm_same : (p : Progress) → Calm p p
calm_same p = record { phase = λ r. inl refl; weight = omega arith }

pub reads_before : (p q : Option Phase) → StaysOrLeaves p q → is_reading q ≡ true → is_reading p ≡ true
reads_before p q (inl same) r = ap is_reading (sym same) ∙ r
reads_before p q (inr left) r = ap is_reading left.0

leaves_then : (p q s : Option Phase) → StaysOrLeaves p q → StaysOrLeaves q s → StaysOrLeaves p s
leaves_then p q s (inl e) (inl h) = inl (h ∙ e)
leaves_then p q s (inl e) (inr left) = inr (sym e ∙ left.0, left.1)
leaves_then p q s (inr left) (inl h) = inr (left.0, h ∙ left.1)
leaves_then p q s (inr left) (inr again) = absurd (let z : Some Leaving ≡ Some Open = sym left.1 ∙ again.0 in cc)

pub stays_or_leaves : (p q s : Option Phase) → (is_reading q ≡ true → StaysOrLeaves p q) → (is_reading s ≡ true → StaysOrLeaves q s) → is_reading s ≡ true → StaysOrLeaves p s
stays_or_leaves p q s x y r = leaves_then p q s (x (reads_before q s (y r) r)) (y r)

calm_then : (p q s : Progress) → Calm p q → Calm q s → Calm p s
calm_then p q s x y = record { phase = stays_or_leaves p.phase q.phase s.phase x.phase y.phase; weight = let m = x.weight in let n = y.weight in omega arith }

-- ---- a note of its own

moved_stays : (phase : Option Phase) (n : NoteValue) → begins n ≡ false → is_reading (unless_gone (moved phase n)) ≡ true → unless_gone (moved phase n) ≡ phase
moved_stays None (note.accepted c) b r = clash true b refl
moved_stays None _ b r = refl
moved_stays (Some Head) (note.opened c route param) b r = clash true b refl
moved_stays (Some Head) (note.head c status) b r = clash false refl r
moved_stays (Some Head) (note.gone c left) b r = clash false refl r
moved_stays (Some Head) _ b r = refl
moved_stays (Some Open) (note.peer_close c code reason) b r = clash false refl r
moved_stays (Some Open) (note.failed c code) b r = clash false refl r
moved_stays (Some Open) (note.gone c left) b r = clash false refl r
moved_stays (Some Open) _ b r = refl
moved_stays (Some Leaving) (note.peer_close c code reason) b r = clash false refl r
moved_stays (Some Leaving) (note.failed c code) b r = clash false refl r
moved_stays (Some Leaving) (note.gone c left) b r = clash false refl r
moved_stays (Some Leaving) _ b r = refl
moved_stays (Some Ending) (note.gone c left) b r = clash false refl r
moved_stays (Some Ending) _ b r = clash false refl r
moved_stays (Some Gone) (note.gone c left) b r = clash false refl r
moved_stays (Some Gone) _ b r = clash false refl r

moved_was : (phase : Option Phase) (n : NoteValue) → is_acceptance n ≡ false → is_reading (unless_gone (moved phase n)) ≡ true → is_reading phase ≡ true
moved_was None (note.accepted c) b r = clash true b refl
moved_was None _ b r = r
moved_was (Some Head) _ b r = refl
moved_was (Some Open) _ b r = refl
moved_was (Some Leaving) _ b r = refl
moved_was (Some Ending) (note.gone c left) b r = r
moved_was (Some Ending) _ b r = r
moved_was (Some Gone) (note.gone c left) b r = r
moved_was (Some Gone) _ b r = r

moved_kept : (phase : Option Phase) (due : Option (ℕ × List ℕ)) (n : NoteValue) → is_acceptance n ≡ false → kept_of (progress_by n (record { phase = phase; topics = []; due = due })) ≡ true → kept_by phase due ≡ true
moved_kept None due (note.accepted c) b k = clash true b refl
moved_kept None due _ b k = k
moved_kept (Some phase) due _ b k = refl

open_reads : (p : Option Phase) → is_open p ≡ true → is_reading p ≡ true
open_reads (Some Open) e = refl
open_reads None e = clash false refl e
open_reads (Some Head) e = refl
open_reads (Some Leaving) e = refl
open_reads (Some Ending) e = clash false refl e
open_reads (Some Gone) e = clash false refl e

-- one that is open was open before
never_opens : (p : Option Phase) (n : NoteValue) → begins n ≡ false → is_open (unless_gone (moved p n)) ≡ true → is_open p ≡ true
never_opens p n b e = ap is_open (sym (moved_stays p n b (open_reads (unless_gone (moved p n)) e))) ∙ e

abbrev pub weight_by : Bool → Option (ℕ × List ℕ) → ℕ
weight_by opened due = cond opened 1 0 + cond (is_some due) 1 0

less_weight : (was now : Bool) (due : Option (ℕ × List ℕ)) (x : ℕ × List ℕ) → (now ≡ true → was ≡ true) → weight_by now (cond (was && not now) (Some x) due) ≤ weight_by was due
less_weight true true due x h = omega arith
less_weight true false None x h = omega arith
less_weight true false (Some due) x h = omega arith
less_weight false true due x h = clash false refl (h refl)
less_weight false false due x h = omega arith

-- what holds of a connection after its own notes holds after all, where it holds for one that is the same
by_note_of : (R : Progress → Type 0) (c : ℕ) (n : NoteValue) (p : Progress) → R p → (is_of c n ≡ true → R (progress_by n p)) → R (progress_after c n p)
by_note_of R c n p same after = by_cases (is_of c n)
    (λ here. subst R (sym (own c n p here)) (after here))
    (λ there. subst R (sym (other c n p there)) same)

begins_here : (c : ℕ) (n : NoteValue) → begins_of c n ≡ false → is_of c n ≡ true → begins n ≡ false
begins_here c n b o = and_other (begins n) (is_of c n) b o
  where
    and_other : (x y : Bool) → (x && y) ≡ false → y ≡ true → x ≡ false
    and_other true y e f = clash y e f
    and_other false y e f = refl

stays_note : (c : ℕ) (n : NoteValue) (p : Progress) → is_acceptance n ≡ false → Stays p (progress_after c n p)
stays_note c n p b = by_note_of (Stays p) c n p (stays_same p) (λ here. record { reading = moved_was p.phase n b; kept = moved_kept p.phase p.due n b })

calm_note : (c : ℕ) (n : NoteValue) (p : Progress) → begins_of c n ≡ false → Calm p (progress_after c n p)
calm_note c n p b = by_note_of (Calm p) c n p (calm_same p) (λ here.
    let begun = begins_here c n b here in
    let now = is_open (moved p.phase n) in
    let less : weight_by now (cond (leaves_open p.phase (moved p.phase n)) (Some (cause_of n)) p.due) ≤ weight_of p =
    less_weight (is_open p.phase) now p.due (cause_of n) (λ e. never_opens p.phase n begun (open_shown (moved p.phase n) ∙ e)) in
    record {
      phase = λ r. inl (moved_stays p.phase n begun r);
      weight = subst (λ (z : Bool). weight_by z (cond (leaves_open p.phase (moved p.phase n)) (Some (cause_of n)) p.due) ≤ weight_of p) (sym (open_shown (moved p.phase n))) less;
    })

-- ---- an order that was served

abbrev closed_by : ℕ × List ℕ → Progress → Progress
closed_by x p = record { phase = closing p.phase; topics = topics_left p.phase (closing p.phase) p.topics; due = cond (leaves_open p.phase (closing p.phase)) (Some x) p.due }

either : (R : Progress → Type 0) (b : Bool) (p q : Progress) → R p → R q → R (cond b p q)
either R true p q x y = x
either R false p q x y = y

-- what holds for one that is the same, for other topics and for a Close holds for every order
by_order_of : (R : Progress → Type 0) (from c : ℕ) (o : OrderValue) (p : Progress) → R p → ((topics : List (List ℕ)) → R (record { phase = p.phase; topics = topics; due = p.due }))
    → ((x : ℕ × List ℕ) → R (closed_by x p)) → R (progress_obeys from c o p)
by_order_of R from c (send to kind body) p same topics closed = same
by_order_of R from c (publish topic kind body) p same topics closed = same
by_order_of R from c (subscribe topic) p same topics closed = either R (nat_eq from c) _ p (topics (with_topic topic p.topics)) same
by_order_of R from c (unsubscribe topic) p same topics closed = either R (nat_eq from c) _ p (topics (without_topic topic p.topics)) same
by_order_of R from c (close code reason) p same topics closed = either R (nat_eq from c) (closed_by (code, reason) p) p (closed (code, reason)) same

-- what holds of any phase beside itself, and of Open beside Leaving, holds of each beside where a Close brings it
closing_by : (R : Option Phase → Option Phase → Type 0) → ((p : Option Phase) → R p p) → R (Some Open) (Some Leaving) → (p : Option Phase) → R p (closing p)
closing_by R same leaves None = same None
closing_by R same leaves (Some Head) = same (Some Head)
closing_by R same leaves (Some Open) = leaves
closing_by R same leaves (Some Leaving) = same (Some Leaving)
closing_by R same leaves (Some Ending) = same (Some Ending)
closing_by R same leaves (Some Gone) = same (Some Gone)

closing_stays : (p : Option Phase) → StaysOrLeaves p (closing p)
closing_stays = closing_by StaysOrLeaves (λ p. inl refl) (inr (refl, refl))

closed_kept : (p : Option Phase) (due : Option (ℕ × List ℕ)) (x : ℕ × List ℕ) → kept_by (closing p) (cond (leaves_open p (closing p)) (Some x) due) ≡ true → kept_by p due ≡ true
closed_kept None due x k = k
closed_kept (Some phase) due x k = refl

never_closes : (p : Option Phase) → is_open (closing p) ≡ true → is_open p ≡ true
never_closes = closing_by (λ p q. is_open q ≡ true → is_open p ≡ true) (λ p e. e) (λ e. refl)

stays_order : (from c : ℕ) (o : OrderValue) (p : Progress) → Stays p (progress_obeys from c o p)
stays_order from c o p = by_order_of (Stays p) from c o p (stays_same p) (λ topics. record { reading = λ r. r; kept = λ k. k })
    (λ x. record { reading = reads_before p.phase (closing p.phase) (closing_stays p.phase); kept = closed_kept p.phase p.due x })

calm_order : (from c : ℕ) (o : OrderValue) (p : Progress) → Calm p (progress_obeys from c o p)
calm_order from c o p = by_order_of (Calm p) from c o p (calm_same p) (λ topics. record { phase = λ r. inl refl; weight = omega arith })
    (λ x. record { phase = λ r. closing_stays p.phase; weight = less_weight (is_open p.phase) (is_open (closing p.phase)) p.due x (never_closes p.phase) })

-- ---- steps, one after another

by_all : (R : Progress → Progress → Type 0) (test : NoteValue → Bool) (c : ℕ) → ((p : Progress) → R p p) → ((p q s : Progress) → R p q → R q s → R p s)
    → ((n : NoteValue) (p : Progress) → test n ≡ false → R p (progress_after c n p)) → ((from : ℕ) (o : OrderValue) (p : Progress) → R p (progress_obeys from c o p))
    → (xs : List Step) (p : Progress) → list_any test (notes_of xs) ≡ false → R p (progress_by_steps c xs p)
by_all R test c same both noted served [] p none = same p
by_all R test c same both noted served (by_note n ∷ xs) p none =
    both p (progress_after c n p) (progress_by_steps c xs (progress_after c n p)) (noted n p (or_left (test n) (list_any test (notes_of xs)) none))
    (by_all R test c same both noted served xs (progress_after c n p) (or_right (test n) (list_any test (notes_of xs)) none))
by_all R test c same both noted served (by_order from o ∷ xs) p none =
    both p (progress_obeys from c o p) (progress_by_steps c xs (progress_obeys from c o p)) (served from o p)
    (by_all R test c same both noted served xs (progress_obeys from c o p) none)

stays_all : (c : ℕ) (xs : List Step) (p : Progress) → list_any is_acceptance (notes_of xs) ≡ false → Stays p (progress_by_steps c xs p)
stays_all c xs p none = by_all Stays is_acceptance c stays_same stays_then (λ n q b. stays_note c n q b) (λ from o q. stays_order from c o q) xs p none

calm_all : (c : ℕ) (xs : List Step) (p : Progress) → list_any (begins_of c) (notes_of xs) ≡ false → Calm p (progress_by_steps c xs p)
calm_all c xs p none = by_all Calm (begins_of c) c calm_same calm_then (λ n q b. calm_note c n q b) (λ from o q. calm_order from c o q) xs p none

pub stays_notes : (c : ℕ) (ns : List NoteValue) (p : Progress) → list_any is_acceptance ns ≡ false → Stays p (progress_after_all c ns p)
stays_notes c ns p none = subst (Stays p) (steps_of_notes c ns p) (stays_all c (of_notes ns) p (ap (list_any is_acceptance) (notes_of-notes ns) ∙ none))

pub calm_notes : (c : ℕ) (ns : List NoteValue) (p : Progress) → list_any (begins_of c) ns ≡ false → Calm p (progress_after_all c ns p)
calm_notes c ns p none = subst (Calm p) (steps_of_notes c ns p) (calm_all c (of_notes ns) p (ap (list_any (begins_of c)) (notes_of-notes ns) ∙ none))

-- ---- who is there

abbrev shown : Option Phase → Bool
shown p = is_some (unless_gone p)

shown_own : (c : ℕ) (p : Option Phase) (n : NoteValue) → is_acceptance n ≡ false → is_of c n ≡ true → shown (unless_gone (moved p n)) ≡ (shown p && not (is_gone c n))
shown_own c None (note.accepted d) b o = clash true b refl
shown_own c None _ b o = refl
shown_own c (Some Head) (note.gone d left) b o = sym (ap not o)
shown_own c (Some Head) (note.opened d route param) b o = refl
shown_own c (Some Head) (note.head d status) b o = refl
shown_own c (Some Head) _ b o = refl
shown_own c (Some Open) (note.gone d left) b o = sym (ap not o)
shown_own c (Some Open) (note.peer_close d code reason) b o = refl
shown_own c (Some Open) (note.failed d code) b o = refl
shown_own c (Some Open) _ b o = refl
shown_own c (Some Leaving) (note.gone d left) b o = sym (ap not o)
shown_own c (Some Leaving) (note.peer_close d code reason) b o = refl
shown_own c (Some Leaving) (note.failed d code) b o = refl
shown_own c (Some Leaving) _ b o = refl
shown_own c (Some Ending) (note.gone d left) b o = sym (ap not o)
shown_own c (Some Ending) _ b o = refl
shown_own c (Some Gone) (note.gone d left) b o = refl
shown_own c (Some Gone) _ b o = refl

not_gone : (c : ℕ) (n : NoteValue) → is_of c n ≡ false → is_gone c n ≡ false
not_gone c (note.gone d left) o = o
not_gone c _ o = refl

shown_note : (c : ℕ) (n : NoteValue) (p : Progress) → is_acceptance n ≡ false → shown (progress_after c n p).phase ≡ (shown p.phase && not (is_gone c n))
shown_note c n p b = by_cases (is_of c n)
    (λ here. ap (λ (z : Progress). shown z.phase) (own c n p here) ∙ shown_own c p.phase n b here)
    (λ there. ap (λ (z : Progress). shown z.phase) (other c n p there) ∙ and_true (shown p.phase) ∙ ap (λ (z : Bool). shown p.phase && not z) (sym (not_gone c n there)))

closing_shown : (p : Option Phase) → shown (closing p) ≡ shown p
closing_shown = closing_by (λ p q. shown q ≡ shown p) (λ p. refl) refl

shown_order : (from c : ℕ) (o : OrderValue) (p : Progress) → shown (progress_obeys from c o p).phase ≡ shown p.phase
shown_order from c o p = by_order_of (λ q. shown q.phase ≡ shown p.phase) from c o p refl (λ topics. refl) (λ x. closing_shown p.phase)

shown_all : (c : ℕ) (xs : List Step) (p : Progress) → list_any is_acceptance (notes_of xs) ≡ false → shown (progress_by_steps c xs p).phase ≡ (shown p.phase && not (is_gone_in c (notes_of xs)))
shown_all c [] p none = and_true (shown p.phase)
shown_all c (by_note n ∷ xs) p none =
    shown_all c xs (progress_after c n p) (or_right (is_acceptance n) (list_any is_acceptance (notes_of xs)) none)
    ∙ ap (λ (z : Bool). z && not (is_gone_in c (notes_of xs))) (shown_note c n p (or_left (is_acceptance n) (list_any is_acceptance (notes_of xs)) none))
    ∙ stays_live (shown p.phase) (is_gone c n) (is_gone_in c (notes_of xs))
shown_all c (by_order from o ∷ xs) p none =
    shown_all c xs (progress_obeys from c o p) none ∙ ap (λ (z : Bool). z && not (is_gone_in c (notes_of xs))) (shown_order from c o p)

-- ---- in a hub

phase_by : (has : Bool) (phase : Phase) → is_reading (cond has (Some phase) None) ≡ true → cond has (Some phase) None ≡ unless_gone (Some phase)
phase_by true Head r = refl
phase_by true Open r = refl
phase_by true Leaving r = refl
phase_by true Ending r = refl
phase_by true Gone r = clash false refl r
phase_by false phase r = clash false refl r

-- the phase of a connection that is read
pub phase_read : (h : HubState) (c : ℕ) → is_reading (phase_at h c) ≡ true → phase_at h c ≡ (progress_at h c).phase
phase_read h c r = phase_by (has_entry h.entries c) (entry_at h c).phase r

there_by : (phase : Phase) → not (hub.is_gone phase) ≡ is_some (unless_gone (Some phase))
there_by Head = refl
there_by Open = refl
there_by Leaving = refl
there_by Ending = refl
there_by Gone = refl

shown_by : (phase : Phase) → not (hub.is_gone phase) ≡ shown (unless_gone (Some phase))
shown_by Head = refl
shown_by Open = refl
shown_by Leaving = refl
shown_by Ending = refl
shown_by Gone = refl

pub present_at : (h : HubState) (c : ℕ) → is_present h c ≡ is_some (progress_at h c).phase
present_at h c = there_by (entry_at h c).phase

-- whether a connection is there, by the phase of an entry
pub there_at : (h : HubState) (c : ℕ) → is_present h c ≡ is_some (unless_gone (phase_at h c))
there_at h c = in_entries h.entries
  where
    one : (first : Entry) (rest : List Entry) (own : Bool) → not (hub.is_gone (entry_of rest c).phase) ≡ is_some (unless_gone (cond (has_entry rest c) (Some (entry_of rest c).phase) None))
        → not (hub.is_gone (cond own first (entry_of rest c)).phase) ≡ is_some (unless_gone (cond (own || has_entry rest c) (Some (cond own first (entry_of rest c)).phase) None))
    one first rest true e = there_by first.phase
    one first rest false e = e

    in_entries : (es : List Entry) → not (hub.is_gone (entry_of es c).phase) ≡ is_some (unless_gone (cond (has_entry es c) (Some (entry_of es c).phase) None))
    in_entries [] = refl
    in_entries (first ∷ rest) = one first rest (nat_eq first.conn c) (in_entries rest)

pub kept_at : (h : HubState) (c : ℕ) → is_kept_at h c ≡ kept_by (progress_at h c).phase (due_at h c)
kept_at h c = ap (λ (z : Bool). z || is_some (due_at h c)) (present_at h c)

read_some : (p : Option Phase) → is_reading p ≡ true → is_some p ≡ true
read_some None r = r
read_some (Some phase) r = refl

-- a connection that is read is not gone
pub read_present : (h : HubState) (c : ℕ) → is_reading (phase_at h c) ≡ true → is_present h c ≡ true
read_present h c r = present_at h c ∙ read_some (progress_at h c).phase (sym (reading_at h c) ∙ r)

-- and is an entry
pub read_kept : (h : HubState) (c : ℕ) → is_reading (phase_at h c) ≡ true → is_kept_at h c ≡ true
read_kept h c r = ap (λ (z : Bool). z || is_some (due_at h c)) (read_present h c r)

-- ---- after steps

pub reading_after : (c : ℕ) (a b : HubState) → Stays (progress_at a c) (progress_at b c) → is_reading (phase_at b c) ≡ true → is_reading (phase_at a c) ≡ true
reading_after c a b s r = reading_at a c ∙ s.reading (sym (reading_at b c) ∙ r)

module _ (c : ℕ) (xs : List Step) (a b : HubState) (p : progress_at b c ≡ progress_by_steps c xs (progress_at a c)) where
  pub stays_after : list_any is_acceptance (notes_of xs) ≡ false → Stays (progress_at a c) (progress_at b c)
  stays_after none = subst (Stays (progress_at a c)) (sym p) (stays_all c xs (progress_at a c) none)

  pub calm_after : list_any (begins_of c) (notes_of xs) ≡ false → Calm (progress_at a c) (progress_at b c)
  calm_after none = subst (Calm (progress_at a c)) (sym p) (calm_all c xs (progress_at a c) none)

  pub present_after : list_any is_acceptance (notes_of xs) ≡ false → is_present b c ≡ (is_present a c && not (is_gone_in c (notes_of xs)))
  present_after none =
      shown_by (entry_at b c).phase ∙ ap (λ (z : Progress). shown z.phase) p ∙ shown_all c xs (progress_at a c) none
      ∙ ap (λ (z : Bool). z && not (is_gone_in c (notes_of xs))) (sym (shown_by (entry_at a c).phase))

-- the phase of one that is read, before and after
pub phases_read : (c : ℕ) (a b : HubState) → Calm (progress_at a c) (progress_at b c) → is_reading (phase_at b c) ≡ true → StaysOrLeaves (phase_at a c) (phase_at b c)
phases_read c a b x r =
    let now = phase_read b c r in
    let moves = x.phase (sym (reading_at b c) ∙ r) in
    let was = phase_read a c (reading_at a c ∙ reads_before (progress_at a c).phase (progress_at b c).phase moves (sym (reading_at b c) ∙ r)) in
    subst (λ (z : Option Phase). StaysOrLeaves z (phase_at b c)) (sym was) (subst (λ (z : Option Phase). StaysOrLeaves (progress_at a c).phase z) (sym now) moves)
