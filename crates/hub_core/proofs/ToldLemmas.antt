-- What is to be told of connections, as it is taken.
use Rattle.hub_core.proofs.Below.{◌≡◌, ◌≢◌, ◌<◌, ◌≤◌, ◌&&◌, ℕ, List, Option, Some, None, Bool, true, false, refl, sym, ap, ◌∙◌, subst, arith, nat_lt, nat_tests, HubState, TellingValue, server, is_open, standings_at, nothing, NoteValue, NetState, Appends, Tell, by_cases, has_news, progress_at, SameCounts, front_same, line_still, IsNextRow, has_row, nothing_of, IsNextNews, MarksTold, TakesTold, news_at}
use Rattle.hub_core.proofs.StateLemmas.{same_or_not}
use Rattle.hub_core.proofs.TurnLemmas.{at_any, with_tellings}

-- of who has no row there is nothing to tell
pub no_news : (hub : HubState) (c : ℕ) → has_row hub.tellings c ≡ false → news_at hub c ≡ false
no_news hub c none = ap (λ (z : Tell). is_open (standings_at hub c).phase && has_news z) (nothing_of hub.tellings c none) ∙ one (is_open (standings_at hub c).phase)
  where
    one : (b : Bool) → (b && false) ≡ false
    one true = refl
    one false = refl

-- up to this number there is nothing to tell
abbrev pub NoNewsUpTo : HubState → ℕ → ℕ → Type 0
NoNewsUpTo hub after place = (conn : ℕ) → after < conn → conn ≤ place → news_at hub conn ≡ false

pub told_between : (hub : HubState) (after place conn : ℕ) → NoNewsUpTo hub after place → IsNextRow hub.tellings place (Some conn) → (other : ℕ) → after < other → other < conn → news_at hub other ≡ false
told_between hub after place conn x next other low high = at_any place other (x other low) (λ above. no_news hub other (next.2 other above high))

pub told_further : (hub : HubState) (after place conn : ℕ) → NoNewsUpTo hub after place → IsNextRow hub.tellings place (Some conn) → news_at hub conn ≡ false → NoNewsUpTo hub after conn
told_further hub after place conn x next none other low few = same_or_not conn other
    (λ e. ap (news_at hub) e ∙ none)
    (λ ne. told_between hub after place conn x next other low (less other conn few ne))
  where
    less : (n m : ℕ) → n ≤ m → n ≢ m → n < m
    less n m few ne = by_cases (nat_lt n m) (λ e. grind (arith, nat_tests)) (λ e. absurd (ne (grind (arith, nat_tests))))

pub told_last : (hub : HubState) (after place : ℕ) → NoNewsUpTo hub after place → IsNextRow hub.tellings place None → IsNextNews hub after None
told_last hub after place x last other low = at_any place other (x other low) (λ above. no_news hub other (last other above))

-- ---- a row is marked

-- what is to be told stands under no line
appends_marked : (h : HubState) (tellings : List TellingValue) (net : NetState) (t : Option (List NoteValue)) → Appends nothing (server h net t) (server (with_tellings h tellings) net t)
appends_marked h tellings net t = record {
  lines = record {
    config = refl;
    named = omega arith;
    lines = λ d few. line_still d (server h net t) (server (with_tellings h tellings) net t) (λ there. there) refl refl (λ items s. s) (λ items f. f);
  };
  fronts = λ d few. let k = front_same d (server h net t) in record { tells = k.tells; told = k.told; count = k.count; front = k.front; taken = k.taken; drops = k.drops; fair = k.fair; stays = k.stays };
  short = λ s. s;
  waits = λ w. w;
}

pub takes_told : {after c dropped : ℕ} {drained : Bool} {a b : HubState} → IsNextNews a after (Some c) → MarksTold c dropped drained a b → TakesTold after c dropped drained a b
takes_told {after} {c} {dropped} {drained} {a} {b} next x = record {
  next = record { above = next.0; news = next.1; least = next.2; dropped_is = x.dropped_is; drained_is = x.drained_is };
  progress = λ d. ap (λ (z : HubState). progress_at z d) x.others;
  tells = x.tells;
  counts = subst (λ (z : HubState). SameCounts a z) (sym x.others) (λ d there. (there, refl));
}

pub appends_told : {c dropped : ℕ} {drained : Bool} {a b : HubState} → MarksTold c dropped drained a b → (net : NetState) (t : Option (List NoteValue)) → Appends nothing (server a net t) (server b net t)
appends_told {c} {dropped} {drained} {a} {b} x net t = subst (λ (z : HubState). Appends nothing (server a net t) (server z net t)) (sym x.others) (appends_marked a b.tellings net t)
