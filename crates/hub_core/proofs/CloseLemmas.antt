-- A connection that the server closes.
use Rattle.hub_core.proofs.Below.{◌≡◌, ◌≤◌, ℕ, List, [], ◌∷◌, Option, Some, None, Bool, true, false, cond, not, ◌||◌, nat_eq, nat_lt, length, refl, sym, ap, ◌∙◌, subst, arith, nat_tests, clash, same_number, other_number, Phase, Head, Open, Leaving, Ending, Gone, NotOpen, NoteValue, NetState, is_open, first_reason, topics_left, leaves_open, unless_gone, HubState, Entry, Server, server, entry_at, is_gone, cork_at, pending_at, held_at, Ties, only, Obeys, served_by, TopicsEnd, Progress, progress_at, progress_obeys, due_at, topics_at, standings_at, count_of, tell_at, ServesOrder, is_utf8, BadCode, close, is_sendable, close_frame, closing, is_bad_close, why_close, only_turned, BeginsToLeave, Closes}
use Rattle.hub_core.proofs.StateLemmas.{change_named, change_progress, progress_of, same_or_not}
use Rattle.hub_core.proofs.NoteLemmas.{Still, counts_changed, still_of}
use Rattle.hub_core.proofs.CallLemmas.{Stays, appends_stay, ties_stay}

-- ---- what may be closed

no_reason : (off bad : Bool) → first_reason ((not off, NotOpen) ∷ (bad, BadCode) ∷ []) ≡ None → (off ≡ true) × (bad ≡ false)
no_reason true false e = (refl, refl)
no_reason false bad e = absurd (let h = e in cc)
no_reason true true e = absurd (let h = e in cc)

none_bad : (sendable long text : Bool) → (not sendable || long || not text) ≡ false → (sendable ≡ true) × (long ≡ false) × (text ≡ true)
none_bad true false true e = (refl, refl, refl)
none_bad false long text e = clash true e refl
none_bad true true text e = clash true e refl
none_bad true false false e = clash true e refl

open_phase : (phase : Phase) → is_open (unless_gone (Some phase)) ≡ true → phase ≡ Open
open_phase Open e = refl
open_phase Head e = clash false refl e
open_phase Leaving e = clash false refl e
open_phase Ending e = clash false refl e
open_phase Gone e = clash false refl e

within : (n : ℕ) → nat_lt 123 n ≡ false → n ≤ 123
within n e = grind (arith, nat_tests)

-- an open connection, a code that may be sent, and a reason that is short and is text
pub record FitsClose (phase : Phase) (code : ℕ) (reason : List ℕ) : Type 0 where
  pub opened : phase ≡ Open
  pub sendable : is_sendable code ≡ true
  pub short : length reason ≤ 123
  pub text : is_utf8 reason ≡ true

pub close_fits : (hub : HubState) (c code : ℕ) (reason : List ℕ) → why_close (standings_at hub c).phase code reason ≡ None → FitsClose (entry_at hub c).phase code reason
close_fits hub c code reason none =
    let both = no_reason (is_open (standings_at hub c).phase) (is_bad_close code reason) none in
    let good = none_bad (is_sendable code) (nat_lt 123 (length reason)) (is_utf8 reason) both.1 in
    record { opened = open_phase (entry_at hub c).phase both.0; sendable = good.0; short = within (length reason) good.1; text = good.2 }

-- ---- a connection that begins to leave

module _ {c code : ℕ} {reason : List ℕ} {a b : HubState} (x : BeginsToLeave c code reason a b) (opened : (entry_at a c).phase ≡ Open) where
  phase_is : (entry_at b c).phase ≡ Leaving
  phase_is = ap (λ (z : Entry). z.phase) x.entry

  gone_both : is_gone (entry_at b c).phase ≡ is_gone (entry_at a c).phase
  gone_both = ap is_gone phase_is ∙ sym (ap is_gone opened)

  held_is : held_at b c ≡ held_at a c
  held_is =
      ap (λ (z : Entry). record { numbered = z.numbered; ring = z.ring; cork = cork_at b c; pending = pending_at b c }) x.entry
      ∙ ap (λ (z : List ℕ). record { numbered = (entry_at a c).numbered; ring = (entry_at a c).ring; cork = z; pending = pending_at b c }) x.cork
      ∙ ap (λ (z : List (List ℕ)). record { numbered = (entry_at a c).numbered; ring = (entry_at a c).ring; cork = cork_at a c; pending = z }) x.pending

  stays_leaving : Stays a b
  stays_leaving = record {
    config = x.change.table.config;
    named = let h = change_named x.change in omega arith;
    gone = λ d. same_or_not c d
        (λ e. subst (λ (z : ℕ). is_gone (entry_at b z).phase ≡ is_gone (entry_at a z).phase) (sym e) gone_both)
        (λ ne. ap (λ (z : Entry). is_gone z.phase) (x.change.table.entries d ne));
    still = λ d _. same_or_not c d
        (λ e. subst (λ (z : ℕ). Still a b z) (sym e) (record { held = held_is; gone = gone_both }))
        (λ ne. still_of c a b x.change d ne);
  }

  own_obeys : (own : Bool) (topics : List (List ℕ)) (due : Option (ℕ × List ℕ)) → own ≡ true → progress_of Leaving [] (Some (code, reason)) ≡ cond own (record {
    phase = closing (Some Open);
    topics = topics_left (Some Open) (closing (Some Open)) topics;
    due = cond (leaves_open (Some Open) (closing (Some Open))) (Some (code, reason)) due;
  }) (progress_of Open topics due)
  own_obeys true topics due e = refl
  own_obeys false topics due e = clash false refl e

  progress_here : progress_at b c ≡ progress_obeys c c (close code reason) (progress_at a c)
  progress_here =
      ap (λ (z : Phase). progress_of z (topics_at b c) (due_at b c)) phase_is
      ∙ ap (λ (z : List (List ℕ)). progress_of Leaving z (due_at b c)) x.topics
      ∙ ap (progress_of Leaving []) x.due
      ∙ own_obeys (nat_eq c c) (topics_at a c) (due_at a c) (same_number c)
      ∙ ap (λ (z : Phase). progress_obeys c c (close code reason) (progress_of z (topics_at a c) (due_at a c))) (sym opened)

  not_own : (own : Bool) (p q : Progress) → own ≡ false → p ≡ cond own q p
  not_own true p q e = clash true e refl
  not_own false p q e = refl

  progress_leaving : (d : ℕ) → progress_at b d ≡ progress_obeys c d (close code reason) (progress_at a d)
  progress_leaving d = same_or_not c d
      (λ e. subst (λ (z : ℕ). progress_at b z ≡ progress_obeys c z (close code reason) (progress_at a z)) (sym e) progress_here)
      (λ ne. change_progress x.change d ne ∙ not_own (nat_eq c d) (progress_at a d) _ (other_number c d ne))

  pub obeys_close : (net : NetState) (t : Option (List NoteValue)) → Obeys c (close code reason) (server a net t) (server b net t)
  obeys_close net t = record {
    progress = progress_leaving;
    tells = λ d. same_or_not c d (λ e. subst (λ (z : ℕ). tell_at b z ≡ tell_at a z) (sym e) x.tells) (λ ne. x.change.tells d ne);
    counts = counts_changed c a b x.change (λ there. (ap not (sym gone_both) ∙ there, ap (λ (z : Entry). count_of z.quiet) x.entry));
    net = refl;
    told = refl;
    appends = appends_stay stays_leaving net t;
  }

  pub ties_leaving : (net : NetState) (t : Option (List NoteValue)) → Ties (server a net t) → Ties (server b net t)
  ties_leaving = ties_stay stays_leaving

-- ---- the order

pub order_closed : (admits : List ℕ → Bool) (from number code : ℕ) (reason : List ℕ) (a b : Server) → why_close (standings_at a.hub from).phase code reason ≡ None → TopicsEnd a → Closes from code reason a b → ServesOrder admits from number (close code reason) a b
order_closed admits from number code reason a b none ends x = record {
  ties = x.sends.ties;
  serves = served_by a.hub.config admits from number a b (close code reason) (only from (close_frame code reason)) x.between none ends x.obeys x.sends.proceeds x.sends.appends (λ c. only_turned from c (close_frame code reason));
  named = x.sends.named ∙ x.named;
  table = x.sends.table;
}
