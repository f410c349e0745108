-- What a tick does for one connection.
use Rattle.std.proofs.Common.{◌≡◌, ◌<◌, ◌≤◌, ◌+◌, ℕ, suc, List, [], ◌∷◌, ◌++◌, Bool, true, false, cond, ◌&&◌, ◌||◌, nat_eq, nat_lt, refl, sym, ap, ◌∙◌, subst, append-nil, arith}
use Rattle.std.proofs.lemmas.Bool.Decides.{nat_tests}
use Rattle.std.specs.List.{list_all}
use Rattle.ws_kinds.specs.declared.note.Left.TheVariants.{Idle}
use Rattle.ws_kinds.specs.NoteValue as note
use Rattle.ws_kinds.specs.NoteValue.{NoteValue}
use Rattle.wire_meaning.specs.declared.frame.Opcode.TheVariants.{Ping}
use Rattle.wire_meaning.specs.Answer.{Item, whole}
use Rattle.run_meaning.specs.Counts.{number_of, is_gone_by_in}
use Rattle.run_meaning.specs.Steps.{by_note, of_notes, standing_after}
use Rattle.run_meaning.specs.Quiet.{is_uncounted}
use Rattle.run_meaning.specs.Timely.{is_pinged, one_if}
use Rattle.hub_lines.specs.State.{HubState, Server, is_present}
use Rattle.hub_lines.specs.Calls.{only, nothing}
use Rattle.hub_notes.specs.Progress.{standings_at}
use Rattle.hub_notes.specs.NetAfter.{FailsAfter}
use Rattle.hub_notes.specs.Calls.{Advances, Proceeds, Appends, Does}
use Rattle.ws_kinds.proofs.Facts.{by_cases}
use Rattle.hub_notes.proofs.DoesLemmas.{does_same, does_notes, items_outgoing}
use Rattle.hub_notes.specs.Quiet.{counts_at, SameCounts}
use Rattle.hub_notes.specs.Quiet.{leaves_at, next_count, ping_due_at, end_due_at}
use Rattle.hub_notes.specs.Answers.{Makes}
use Rattle.hub_ticks.specs.Ticking.{CountsOne, TicksAt, TicksBelow, TicksOne, counted}
use Rattle.hub_notes.proofs.TickLemmas.{outgoing_of_tick, tick_uncounted, sent_unpinged, sent_stayed}
use Rattle.hub_ticks.proofs.WalkLemmas.{present_alike, ticks_pass}

same_number : (x y : ℕ) → nat_eq x y ≡ true → x ≡ y
same_number x y e = grind (arith, nat_tests)

itself : (c : ℕ) → nat_eq c c ≡ true
itself c = grind (arith, nat_tests)

turned : (x y : ℕ) → nat_eq x y ≡ nat_eq y x
turned x y = grind (arith, nat_tests)

is_below : (n m : ℕ) → n ≡ m → n ≤ m
is_below n m e = omega arith

-- what the notes tell is just what they are to tell
exactly : (done : Bool) (c : ℕ) (rest : List NoteValue) (a b : Server) → number_of (is_pinged c) rest ≡ one_if (done && ping_due_at a.hub c) → is_gone_by_in c Idle rest ≡ (done && end_due_at a.hub c)
    → (is_present b.hub c ≡ true → (is_present a.hub c ≡ true) × (counts_at b.hub c ≡ counted done (leaves_at a.hub c) (counts_at a.hub c))) → TicksAt done c rest a b
exactly done c rest a b pings ends counts = record {
  pings = λ was lost. pings;
  pinged = is_below (number_of (is_pinged c) rest) (one_if (done && ping_due_at a.hub c)) pings;
  ends = λ was lost. ends;
  ended = λ e. sym ends ∙ e;
  counts = counts;
}

-- for each, by what is told of the connection itself and of the others
for_each : (conn : ℕ) (rest : List NoteValue) (a b : Server) → TicksAt true conn rest a b → ((c : ℕ) → nat_eq c conn ≡ false → TicksAt false c rest a b) → (c : ℕ) → TicksAt (nat_eq c conn) c rest a b
for_each conn rest a b here other c = by_cases (nat_eq c conn)
    (λ e. subst (λ (k : Bool). TicksAt k c rest a b) (sym e) (subst (λ (z : ℕ). TicksAt true z rest a b) (sym (same_number c conn e)) here))
    (λ e. subst (λ (k : Bool). TicksAt k c rest a b) (sym e) (other c e))

module _ (conn : ℕ) (a m : Server) (x : CountsOne conn a m) where
  -- the counts after what follows
  counts_here : (b : Server) → SameCounts m.hub b.hub → is_present b.hub conn ≡ true → (is_present a.hub conn ≡ true) × (counts_at b.hub conn ≡ next_count (leaves_at a.hub conn) (counts_at a.hub conn))
  counts_here b same there =
      let z = same conn there in
      (present_alike a.hub m.hub conn (x.progress conn) z.0, z.1 ∙ x.counts conn ∙ ap (λ (k : Bool). cond k (next_count (leaves_at a.hub conn) (counts_at a.hub conn)) (counts_at a.hub conn)) (itself conn))

  counts_other : (b : Server) → SameCounts m.hub b.hub → (c : ℕ) → nat_eq c conn ≡ false → is_present b.hub c ≡ true → (is_present a.hub c ≡ true) × (counts_at b.hub c ≡ counts_at a.hub c)
  counts_other b same c e there =
      let z = same c there in
      (present_alike a.hub m.hub c (x.progress c) z.0, z.1 ∙ x.counts c ∙ ap (λ (k : Bool). cond k (next_count (leaves_at a.hub c) (counts_at a.hub c)) (counts_at a.hub c)) e)

  -- nothing is due
  pub one_nothing : ping_due_at a.hub conn ≡ false → end_due_at a.hub conn ≡ false → TicksOne conn a m
  one_nothing no_ping no_end = record {
    between = m;
    counts_one = x;
    rest = [];
    of_tick = refl;
    does = λ texts. does_same texts m;
    at = for_each conn [] a m
        (exactly true conn [] a m (sym (ap one_if no_ping)) (sym no_end) (counts_here m (λ c there. (there, refl))))
        (λ c e. exactly false c [] a m refl refl (counts_other m (λ d there. (there, refl)) c e));
  }

  -- a ping is due
  pub one_ping : (b : Server) → ping_due_at a.hub conn ≡ true → end_due_at a.hub conn ≡ false → Proceeds (note.pinged conn ∷ []) [] m b → Appends (only conn (whole Ping [])) m b → TicksOne conn a b
  one_ping b ping no_end p app = record {
    between = m;
    counts_one = x;
    rest = note.pinged conn ∷ p.sending;
    of_tick = outgoing_of_tick p.sending p.outgoing;
    does = sent;
    at = for_each conn (note.pinged conn ∷ p.sending) a b
        (exactly true conn (note.pinged conn ∷ p.sending) a b
        (number conn ∙ ap (λ (k : Bool). cond k 1 0) (itself conn) ∙ sym (ap one_if ping))
        (sent_stayed conn p.sending p.outgoing ∙ sym no_end)
        (counts_here b same))
        (λ c e. exactly false c (note.pinged conn ∷ p.sending) a b
        (number c ∙ ap (λ (k : Bool). cond k 1 0) (turned conn c ∙ e))
        (sent_stayed c p.sending p.outgoing)
        (counts_other b same c e));
  }
    where
      all : (note.pinged conn ∷ []) ++ (p.sending ++ []) ≡ note.pinged conn ∷ p.sending
      all = ap (λ (z : List NoteValue). note.pinged conn ∷ z) (append-nil p.sending)

      same : SameCounts m.hub b.hub
      same = p.advances.counts (ap (λ (z : List NoteValue). list_all is_uncounted z) all ∙ tick_uncounted (note.pinged conn ∷ p.sending) (outgoing_of_tick p.sending p.outgoing))

      number : (c : ℕ) → number_of (is_pinged c) (note.pinged conn ∷ p.sending) ≡ cond (nat_eq conn c) 1 0
      number c = ap (λ (z : ℕ). cond (nat_eq conn c) (suc z) z) (sent_unpinged c p.sending p.outgoing)

      put : (c : ℕ) → only conn (whole Ping []) c ≡ cond (nat_eq conn c) (whole Ping [] ∷ []) []
      put c = ap (λ (k : Bool). cond k (whole Ping [] ∷ []) []) (turned c conn)

      sent : (texts : ℕ → List ℕ) → Does texts (of_notes (note.pinged conn ∷ p.sending)) m b
      sent texts = does_notes texts (note.pinged conn ∷ p.sending) (only conn (whole Ping [])) m b
          (subst (λ (z : List NoteValue). Advances z m b) all p.advances) (subst (λ (z : List NoteValue). FailsAfter z m.net b.net) all p.fails) app
          (λ c. put c ∙ sym (append-nil (cond (nat_eq conn c) (whole Ping [] ∷ []) []))
          ∙ ap (λ (z : List Item). cond (nat_eq conn c) (whole Ping [] ∷ []) [] ++ z) (sym (items_outgoing texts c p.sending (standing_after c (by_note (note.pinged conn)) (standings_at m.hub c)) p.outgoing)))

  -- its end is due
  pub one_end : (b : Server) → ping_due_at a.hub conn ≡ false → end_due_at a.hub conn ≡ true → Makes (note.gone conn Idle ∷ []) m b → Appends nothing m b → TicksOne conn a b
  one_end b no_ping end makes app = record {
    between = m;
    counts_one = x;
    rest = note.gone conn Idle ∷ [];
    of_tick = refl;
    does = λ texts. does_notes texts (note.gone conn Idle ∷ []) nothing m b makes.advances makes.fails app (λ c. none (nat_eq conn c));
    at = for_each conn (note.gone conn Idle ∷ []) a b
        (exactly true conn (note.gone conn Idle ∷ []) a b (sym (ap one_if no_ping)) (gone conn ∙ itself conn ∙ sym end) (counts_here b same))
        (λ c e. exactly false c (note.gone conn Idle ∷ []) a b refl (gone c ∙ turned conn c ∙ e) (counts_other b same c e));
  }
    where
      same : SameCounts m.hub b.hub
      same = makes.advances.counts refl

      none : (k : Bool) → nothing conn ≡ cond k (nothing conn) (nothing conn) ++ []
      none true = refl
      none false = refl

      gone : (c : ℕ) → is_gone_by_in c Idle (note.gone conn Idle ∷ []) ≡ nat_eq conn c
      gone c = one (nat_eq conn c)
        where
          one : (k : Bool) → ((k && true) || false) ≡ k
          one true = refl
          one false = refl

-- the tick is noted, and only number 0, which is no connection, was passed
pub ticks_start : (a b : Server) → Makes (note.tick ∷ []) a b → Appends nothing a b → b.hub ≡ a.hub → is_present a.hub 0 ≡ false → TicksBelow (0 + 1) a b
ticks_start a b makes app same none = ticks_pass 0 (0 + 1) a b (omega arith) (λ c low high. subst (λ (z : ℕ). is_present b.hub z ≡ false) (zero_is c high) (ap (λ (h : HubState). is_present h 0) same ∙ none)) (record {
  rest = [];
  of_tick = refl;
  does = λ texts. does_notes texts (note.tick ∷ []) nothing a b makes.advances makes.fails app (λ c. refl);
  at = λ c. subst (λ (k : Bool). TicksAt k c [] a b) (sym (none_below c)) (exactly false c [] a b refl refl (λ there. (sym (ap (λ (h : HubState). is_present h c) same) ∙ there, ap (λ (h : HubState). counts_at h c) same)));
})
  where
    none_below : (c : ℕ) → nat_lt c 0 ≡ false
    none_below c = grind (arith, nat_tests)

    zero_is : (c : ℕ) → c < 0 + 1 → 0 ≡ c
    zero_is c l = omega arith
