-- A tick, connection by connection.
use Rattle.std.proofs.Common.{◌≡◌, ◌<◌, ◌≤◌, ◌+◌, ℕ, List, [], ◌∷◌, ◌++◌, Option, Some, None, Bool, true, false, not, ◌&&◌, ◌||◌, nat_eq, nat_lt, refl, sym, ap, ◌∙◌, subst, arith}
use Rattle.std.proofs.lemmas.Bool.Decides.{nat_tests}
use Rattle.std.proofs.lemmas.List.{map-append}
use Rattle.std.specs.List.{list_all}
use Rattle.ws_kinds.specs.declared.note.Left.TheVariants.{Idle, LinkFailed}
use Rattle.ws_kinds.specs.ConfigValue.{ConfigValue}
use Rattle.ws_kinds.specs.NoteValue as note
use Rattle.ws_kinds.specs.NoteValue.{NoteValue}
use Rattle.run_meaning.specs.Counts.{number_of, is_gone_in, is_gone_by_in}
use Rattle.run_meaning.proofs.Parts.{gone_by-append}
use Rattle.run_meaning.proofs.All.{notes_of-notes}
use Rattle.run_meaning.specs.Steps.{Step, by_note, of_notes, notes_of, appended_by}
use Rattle.link_trait.specs.NetState.{NetState}
use Rattle.ws_kinds.specs.Watch.{AreNoted}
use Rattle.hub_notes.specs.NetAfter.{NetAfter, FailsAfter}
use Rattle.hub_notes.proofs.FrontLemmas.{appends_before_nothing}
use Rattle.run_meaning.proofs.NoteLemmas.{all_then}
use Rattle.run_meaning.specs.Quiet.{QuietCount, is_leaving}
use Rattle.run_meaning.specs.Timely.{is_pinged, is_ping_due, is_end_due, one_if}
use Rattle.hub_lines.specs.State.{Entry, HubState, Server, entry_at, has_entry, is_gone, is_present}
use Rattle.hub_lines.proofs.All.{none_of}
use Rattle.hub_notes.specs.Progress.{Progress, progress_at, progress_after_all, standings_at}
use Rattle.hub_notes.specs.Calls.{Does}
use Rattle.ws_kinds.proofs.Facts.{by_cases, clash, or_left, or_right, stays_false}
use Rattle.hub_notes.proofs.TieLemmas.{unaccepted, none_if_gone, away_by_phase, phase_of_away}
use Rattle.hub_notes.proofs.DoesLemmas.{does_then}
use Rattle.hub_notes.specs.Quiet.{counts_at}
use Rattle.hub_notes.specs.Quiet.{leaves_at, next_count, ping_due_at, end_due_at}
use Rattle.hub_notes.specs.Table.{IsNextEntry}
use Rattle.hub_notes.specs.Ticks.{Ticks, is_of_tick}
use Rattle.hub_ticks.specs.Ticking.{CountsOne, TicksAt, TicksBelow, TicksIfThere, TicksOne}
use Rattle.hub_notes.proofs.TickLemmas.{tick_unaccepted, causes, stayed, all_still, shown_twice}
use Rattle.hub_notes.proofs.NetLemmas.{number_then as number_of-append}
use Rattle.hub_notes.proofs.All.{steps_of_notes}

none_le : (k : ℕ) → k ≤ 0 → k ≡ 0
none_le k l = omega arith

sum_is : (n x y k : ℕ) → n ≡ x + y → x ≡ k → y ≡ 0 → n ≡ k
sum_is n x y k e f g = omega arith

sum_le : (n x y k : ℕ) → n ≡ x + y → x ≤ k → y ≤ 0 → n ≤ k
sum_le n x y k e f g = omega arith

sum_then : (n x y k : ℕ) → n ≡ x + y → x ≤ 0 → y ≡ k → n ≡ k
sum_then n x y k e f g = omega arith

sum_then_le : (n x y k : ℕ) → n ≡ x + y → x ≤ 0 → y ≤ k → n ≤ k
sum_then_le n x y k e f g = omega arith

or_later : (a b : Bool) → a ≡ false → (a || b) ≡ b
or_later a b e = ap (λ (z : Bool). z || b) e

or_first : (a b : Bool) → b ≡ false → (a || b) ≡ a
or_first true b e = refl
or_first false b e = e

-- ---- who is there

pub present_alike : (h k : HubState) (c : ℕ) → progress_at k c ≡ progress_at h c → is_present k c ≡ true → is_present h c ≡ true
present_alike h k c same there = by_cases (is_present h c)
    (λ was. was)
    (λ away. clash (is_present k c) (away_by_phase k c (ap (λ (z : Progress). z.phase) same ∙ phase_of_away h c away)) there)

module _ (rest : List NoteValue) (a b : Server) (of_tick : list_all is_of_tick rest ≡ true) (does : Does (λ _. []) (by_note note.tick ∷ of_notes rest) a b) where
  came : (c : ℕ) → progress_at b.hub c ≡ progress_after_all c rest (progress_at a.hub c)
  came c = does.progress c ∙ steps_of_notes c rest (progress_at a.hub c)

  same_unless : (c : ℕ) → is_gone_in c rest ≡ false → progress_at b.hub c ≡ progress_at a.hub c
  same_unless c e = came c ∙ all_still c rest (progress_at a.hub c) of_tick e (shown_twice (Some (entry_at a.hub c).phase))

  -- who is there is as before
  pub same_there : (c : ℕ) → is_present b.hub c ≡ true → progress_at b.hub c ≡ progress_at a.hub c
  same_there c there = by_cases (is_gone_in c rest)
      (λ gone. clash (is_present b.hub c) (away_by_phase b.hub c (ap (λ (z : Progress). z.phase) (came c) ∙ none_if_gone c rest (progress_at a.hub c) (unaccepted rest c (tick_unaccepted rest of_tick)) gone)) there)
      (λ still. same_unless c still)

  -- who was there and is not is gone
  pub gone_there : (c : ℕ) → is_present a.hub c ≡ true → is_present b.hub c ≡ false → is_gone_in c rest ≡ true
  gone_there c was away = by_cases (is_gone_in c rest)
      (λ gone. gone)
      (λ still. clash (is_present b.hub c) away (present_alike b.hub a.hub c (sym (same_unless c still)) was))

  -- who is there is not gone, for no cause
  pub not_gone : (c : ℕ) → is_present b.hub c ≡ true → (is_gone_by_in c LinkFailed rest ≡ false) × (is_gone_by_in c Idle rest ≡ false)
  not_gone c there = by_cases (is_gone_in c rest)
      (λ gone. clash (is_present b.hub c) (away_by_phase b.hub c (ap (λ (z : Progress). z.phase) (came c) ∙ none_if_gone c rest (progress_at a.hub c) (unaccepted rest c (tick_unaccepted rest of_tick)) gone)) there)
      (λ still. (stayed c LinkFailed rest still, stayed c Idle rest still))

-- ---- one connection

ping_alike : (h k : HubState) (c : ℕ) → k.config ≡ h.config → progress_at k c ≡ progress_at h c → counts_at k c ≡ counts_at h c → ping_due_at k c ≡ ping_due_at h c
ping_alike h k c e p q =
    ap (λ (z : ConfigValue). is_ping_due z (standings_at k c).phase (counts_at k c)) e
    ∙ ap (λ (z : Progress). is_ping_due h.config z.phase (counts_at k c)) p
    ∙ ap (λ (z : QuietCount). is_ping_due h.config (standings_at h c).phase z) q

end_alike : (h k : HubState) (c : ℕ) → k.config ≡ h.config → progress_at k c ≡ progress_at h c → counts_at k c ≡ counts_at h c → end_due_at k c ≡ end_due_at h c
end_alike h k c e p q =
    ap (λ (z : ConfigValue). is_end_due z (standings_at k c).phase (counts_at k c)) e
    ∙ ap (λ (z : Progress). is_end_due h.config z.phase (counts_at k c)) p
    ∙ ap (λ (z : QuietCount). is_end_due h.config (standings_at h c).phase z) q

-- one that is there no more was gone before its turn came
pub at_passed : (c : ℕ) (rest : List NoteValue) (a b : Server) → list_all is_of_tick rest ≡ true → (is_present a.hub c ≡ true → is_gone_in c rest ≡ true) → is_present b.hub c ≡ false
    → TicksAt false c rest a b → TicksAt true c rest a b
at_passed c rest a b of_tick gone away p = record {
  pings = λ was lost. clash (is_gone_by_in c Idle rest) (p.ends was lost) (causes c rest of_tick (gone was) lost);
  pinged = more (number_of (is_pinged c) rest) (one_if (ping_due_at a.hub c)) p.pinged;
  ends = λ was lost. clash (is_gone_by_in c Idle rest) (p.ends was lost) (causes c rest of_tick (gone was) lost);
  ended = λ e. clash false refl (p.ended e);
  counts = λ there. clash (is_present b.hub c) away there;
}
  where
    more : (k m : ℕ) → k ≤ 0 → k ≤ m
    more k m l = omega arith

module _ (c : ℕ) (xs ys : List NoteValue) (a b d : Server) where
  both : number_of (is_pinged c) (xs ++ ys) ≡ number_of (is_pinged c) xs + number_of (is_pinged c) ys
  both = number_of-append (is_pinged c) xs ys

  lost_first : is_gone_by_in c LinkFailed (xs ++ ys) ≡ false → is_gone_by_in c LinkFailed xs ≡ false
  lost_first e = or_left (is_gone_by_in c LinkFailed xs) (is_gone_by_in c LinkFailed ys) (sym (gone_by-append c LinkFailed xs ys) ∙ e)

  lost_last : is_gone_by_in c LinkFailed (xs ++ ys) ≡ false → is_gone_by_in c LinkFailed ys ≡ false
  lost_last e = or_right (is_gone_by_in c LinkFailed xs) (is_gone_by_in c LinkFailed ys) (sym (gone_by-append c LinkFailed xs ys) ∙ e)

  -- then others are counted
  pub at_before : (done : Bool) → TicksAt done c xs a b → TicksAt false c ys b d → TicksAt done c (xs ++ ys) a d
  at_before done p q =
      let stays : is_gone_by_in c Idle ys ≡ false = stays_false false (is_gone_by_in c Idle ys) q.ended refl in
      let all : is_gone_by_in c Idle (xs ++ ys) ≡ is_gone_by_in c Idle xs = gone_by-append c Idle xs ys ∙ or_first (is_gone_by_in c Idle xs) (is_gone_by_in c Idle ys) stays in
      record {
        pings = λ was lost. sum_is (number_of (is_pinged c) (xs ++ ys)) (number_of (is_pinged c) xs) (number_of (is_pinged c) ys) (one_if (done && ping_due_at a.hub c)) both (p.pings was (lost_first lost)) (none_le (number_of (is_pinged c) ys) q.pinged);
        pinged = sum_le (number_of (is_pinged c) (xs ++ ys)) (number_of (is_pinged c) xs) (number_of (is_pinged c) ys) (one_if (done && ping_due_at a.hub c)) both p.pinged q.pinged;
        ends = λ was lost. all ∙ p.ends was (lost_first lost);
        ended = λ e. p.ended (sym all ∙ e);
        counts = λ there. let z = q.counts there in let y = p.counts z.0 in (y.0, z.1 ∙ y.1);
      }

  -- then it is counted
  pub at_now : b.hub.config ≡ a.hub.config → progress_at b.hub c ≡ progress_at a.hub c → is_present b.hub c ≡ true → TicksAt false c xs a b → TicksAt true c ys b d → TicksAt true c (xs ++ ys) a d
  at_now config same there p q =
      let before = p.counts there in
      let ping : ping_due_at b.hub c ≡ ping_due_at a.hub c = ping_alike a.hub b.hub c config same before.1 in
      let end : end_due_at b.hub c ≡ end_due_at a.hub c = end_alike a.hub b.hub c config same before.1 in
      let stays : is_gone_by_in c Idle xs ≡ false = stays_false false (is_gone_by_in c Idle xs) p.ended refl in
      let all : is_gone_by_in c Idle (xs ++ ys) ≡ is_gone_by_in c Idle ys = gone_by-append c Idle xs ys ∙ or_later (is_gone_by_in c Idle xs) (is_gone_by_in c Idle ys) stays in
      record {
        pings = λ was lost. sum_then (number_of (is_pinged c) (xs ++ ys)) (number_of (is_pinged c) xs) (number_of (is_pinged c) ys) (one_if (ping_due_at a.hub c)) both p.pinged (q.pings there (lost_last lost) ∙ ap one_if ping);
        pinged = sum_then_le (number_of (is_pinged c) (xs ++ ys)) (number_of (is_pinged c) xs) (number_of (is_pinged c) ys) (one_if (ping_due_at a.hub c)) both p.pinged (subst (λ (z : Bool). number_of (is_pinged c) ys ≤ one_if z) ping q.pinged);
        ends = λ was lost. all ∙ q.ends there (lost_last lost) ∙ end;
        ended = λ e. sym end ∙ q.ended (sym all ∙ e);
        counts = λ late.
            let z = q.counts late in
            (before.0, z.1 ∙ ap (λ (y : Progress). next_count (is_leaving y.phase) (counts_at b.hub c)) same ∙ ap (next_count (leaves_at a.hub c)) before.1);
      }

-- ---- the walk

lt_yes : (d n : ℕ) → d < n → nat_lt d n ≡ true
lt_yes d n l = grind (arith, nat_tests)

lt_no : (d n : ℕ) → n ≤ d → nat_lt d n ≡ false
lt_no d n l = grind (arith, nat_tests)

pub is_less : (d n : ℕ) → nat_lt d n ≡ true → d < n
is_less d n e = grind (arith, nat_tests)

pub is_not_less : (d n : ℕ) → nat_lt d n ≡ false → n ≤ d
is_not_less d n e = grind (arith, nat_tests)

same_number : (x y : ℕ) → nat_eq x y ≡ true → x ≡ y
same_number x y e = grind (arith, nat_tests)

itself : (c : ℕ) → nat_eq c c ≡ true
itself c = grind (arith, nat_tests)

other_above : (d conn : ℕ) → nat_eq d conn ≡ false → nat_lt d conn ≡ false → conn + 1 ≤ d
other_above d conn e l = grind (arith, nat_tests)

below_it : (d n : ℕ) → nat_eq d n ≡ false → d < n + 1 → d < n
below_it d n e l = grind (arith, nat_tests)

-- from one bound to a later one, between which nobody is there
pub ticks_pass : (low high : ℕ) (a b : Server) → low ≤ high → ((c : ℕ) → low ≤ c → c < high → is_present b.hub c ≡ false) → TicksBelow low a b → TicksBelow high a b
ticks_pass low high a b le none x = record { rest = x.rest; of_tick = x.of_tick; does = x.does; at = at }
  where
    at : (c : ℕ) → TicksAt (nat_lt c high) c x.rest a b
    at c = by_cases (nat_lt c low)
        (λ l. let l' = is_less c low l in subst (λ (k : Bool). TicksAt k c x.rest a b) (l ∙ sym (lt_yes c high (omega arith))) (x.at c))
        (λ l.
        let l' = is_not_less c low l in
        let now : TicksAt false c x.rest a b = subst (λ (k : Bool). TicksAt k c x.rest a b) l (x.at c) in
        by_cases (nat_lt c high)
        (λ m. subst (λ (k : Bool). TicksAt k c x.rest a b) (sym m) (at_passed c x.rest a b x.of_tick (λ was. gone_there x.rest a b x.of_tick (x.does (λ _. [])) c was (none c l' (is_less c high m))) (none c l' (is_less c high m)) now))
        (λ m. subst (λ (k : Bool). TicksAt k c x.rest a b) (sym m) now))

-- a connection is counted behind a tick
does_beside : (texts : ℕ → List ℕ) (rest : List NoteValue) (conn : ℕ) (a b d : Server) → Does texts (by_note note.tick ∷ of_notes rest) a b → CountsOne conn b d → Does texts (by_note note.tick ∷ of_notes rest) a d
does_beside texts rest conn a b d x y = record {
  told = subst (λ (z : Option (List NoteValue)). AreNoted a.told (notes_of (by_note note.tick ∷ of_notes rest)) z) (sym y.told) x.told;
  may_come = x.may_come;
  progress = λ c. y.progress c ∙ x.progress c;
  tells = λ e c. y.tells c ∙ x.tells e c;
  counts = λ e. clash false refl e;
  net = subst (λ (z : NetState). NetAfter (notes_of (by_note note.tick ∷ of_notes rest)) a.net z) (sym y.net) x.net;
  fails = subst (λ (z : NetState). FailsAfter (notes_of (by_note note.tick ∷ of_notes rest)) a.net z) (sym y.net) x.fails;
  appends = appends_before_nothing (appended_by texts (by_note note.tick ∷ of_notes rest) (standings_at a.hub)) a b d x.appends y.appends;
}

-- the next one
pub ticks_next : (conn : ℕ) (a b d : Server) → is_present b.hub conn ≡ true → TicksBelow conn a b → TicksOne conn b d → TicksBelow (conn + 1) a d
ticks_next conn a b d there x y = record {
  rest = x.rest ++ y.rest;
  of_tick = all_then is_of_tick x.rest y.rest x.of_tick y.of_tick;
  does = λ texts. subst (λ (z : List Step). Does texts (by_note note.tick ∷ z) a d) (sym (map-append by_note x.rest y.rest)) (does_then texts (by_note note.tick ∷ of_notes x.rest) (of_notes y.rest) a y.between d (does_beside texts x.rest conn a b y.between (x.does texts) y.counts_one) (y.does texts));
  at = at;
}
  where
    first : Does (λ _. []) (by_note note.tick ∷ of_notes x.rest) a b
    first = x.does (λ _. [])

    here : TicksAt true conn (x.rest ++ y.rest) a d
    here = at_now conn x.rest y.rest a b d first.appends.lines.config (same_there x.rest a b x.of_tick first conn there) there
        (subst (λ (k : Bool). TicksAt k conn x.rest a b) (lt_no conn conn (omega arith)) (x.at conn))
        (subst (λ (k : Bool). TicksAt k conn y.rest b d) (itself conn) (y.at conn))

    other : (c : ℕ) → nat_eq c conn ≡ false → TicksAt (nat_lt c conn) c (x.rest ++ y.rest) a d
    other c e = at_before c x.rest y.rest a b d (nat_lt c conn) (x.at c) (subst (λ (k : Bool). TicksAt k c y.rest b d) e (y.at c))

    at : (c : ℕ) → TicksAt (nat_lt c (conn + 1)) c (x.rest ++ y.rest) a d
    at c = by_cases (nat_eq c conn)
        (λ e. let s = same_number c conn e in subst (λ (z : ℕ). TicksAt (nat_lt z (conn + 1)) z (x.rest ++ y.rest) a d) (sym s) (subst (λ (k : Bool). TicksAt k conn (x.rest ++ y.rest) a d) (sym (lt_yes conn (conn + 1) (omega arith))) here))
        (λ e. by_cases (nat_lt c conn)
        (λ l. let l' = is_less c conn l in subst (λ (k : Bool). TicksAt k c (x.rest ++ y.rest) a d) (l ∙ sym (lt_yes c (conn + 1) (omega arith))) (other c e))
        (λ l. subst (λ (k : Bool). TicksAt k c (x.rest ++ y.rest) a d) (l ∙ sym (lt_no c (conn + 1) (other_above c conn e l))) (other c e)))

-- one that is no entry is not there
away_of : (h : HubState) (c : ℕ) → has_entry h.entries c ≡ false → is_present h c ≡ false
away_of h c e = ap (λ (z : Entry). not (is_gone z.phase)) (none_of h.entries c e)

-- the next entry is counted, where it is not gone
pub ticks_on : (after conn : ℕ) (a b d : Server) → IsNextEntry b.hub.entries after (Some conn) → TicksBelow (after + 1) a b → TicksIfThere conn b d → TicksBelow (conn + 1) a d
ticks_on after conn a b d next x y = by_cases (is_present b.hub conn)
    (λ there. ticks_next conn a b d there (ticks_pass (after + 1) conn a b (above next.0) (λ c low high. away_of b.hub c (next.2 c (higher c low) high)) x) (y.there there))
    (λ away. subst (λ (z : Server). TicksBelow (conn + 1) a z) (sym (y.away away))
    (ticks_pass (after + 1) (conn + 1) a b (beyond next.0) (λ c low high. by_cases (nat_eq c conn)
    (λ e. subst (λ (z : ℕ). is_present b.hub z ≡ false) (sym (same_number c conn e)) away)
    (λ e. away_of b.hub c (next.2 c (higher c low) (below_it c conn e high)))) x))
  where
    above : after < conn → after + 1 ≤ conn
    above l = omega arith

    beyond : after < conn → after + 1 ≤ conn + 1
    beyond l = omega arith

    higher : (c : ℕ) → after + 1 ≤ c → after < c
    higher c l = omega arith

-- all were counted
pub ticks_end : (after : ℕ) (a b : Server) → IsNextEntry b.hub.entries after None → TicksBelow (after + 1) a b → Ticks a b
ticks_end after a b last x = record {
  rest = x.rest;
  of_tick = x.of_tick;
  does = x.does;
  fails = subst (λ (z : List NoteValue). FailsAfter (note.tick ∷ z) a.net b.net) (notes_of-notes x.rest) (x.does (λ _. [])).fails;
  pings = λ c was lost. (at c).pings was lost;
  pinged = λ c. (at c).pinged;
  ends = λ c was lost. (at c).ends was lost;
  ended = λ c e. (at c).ended e;
  counts = λ c there. (at c).counts there;
}
  where
    higher : (c : ℕ) → after + 1 ≤ c → after < c
    higher c l = omega arith

    at : (c : ℕ) → TicksAt true c x.rest a b
    at c = by_cases (nat_lt c (after + 1))
        (λ l. subst (λ (k : Bool). TicksAt k c x.rest a b) l (x.at c))
        (λ l.
        let away = away_of b.hub c (last c (higher c (is_not_less c (after + 1) l))) in
        at_passed c x.rest a b x.of_tick (λ was. gone_there x.rest a b x.of_tick (x.does (λ _. [])) c was away) away (subst (λ (k : Bool). TicksAt k c x.rest a b) l (x.at c)))
