-- One more act, and what is kept of the acts so far.
use Rattle.schedule_text.proofs.Below.{◌≡◌, ℕ, ◌<◌, ◌≤◌, ◌&&◌, ◌||◌, Bool, true, false, not, cond, eqb, ltb, List, [], ◌∷◌, ◌++◌, Option, Some, None, refl, sym, ap, subst, ◌∙◌, arith, list_all, list_any, eqb-true, and_parts, lt-ltb, le-ltb, nat_tests, is_below, is_arrival, is_ending, is_rising, has_arrived, has_ended, Act, Conn, Fault, Arrivals, rising_fault, naming_fault, sending_fault, Arrives, Ends, Follows, rising_is_new, or_false}
use Rattle.link_trait.specs.declared.act.Act.TheVariants as act
use Rattle.schedule_text.specs.declared.fault.Fault.TheVariants as fault

pub clash : true ≡ false → ⊥
clash e = cc

-- ---- tests over one more act

pub and_true : (b : Bool) → (b && true) ≡ b
and_true true = refl
and_true false = refl

pub and_assoc : (a b c : Bool) → (a && (b && c)) ≡ (a && b && c)
and_assoc true b c = refl
and_assoc false b c = refl

or_assoc : (a b c : Bool) → (a || (b || c)) ≡ (a || b || c)
or_assoc true b c = refl
or_assoc false b c = refl

all_more : {X : Type 0} (test : X → Bool) (xs : List X) (x : X) → list_all test (xs ++ x ∷ []) ≡ (list_all test xs && test x)
all_more test [] x = and_true (test x)
all_more test (y ∷ xs) x = ap (λ (b : Bool). test y && b) (all_more test xs x) ∙ and_assoc (test y) (list_all test xs) (test x)

any_more : {X : Type 0} (test : X → Bool) (xs : List X) (x : X) → list_any test (xs ++ x ∷ []) ≡ (list_any test xs || test x)
any_more test [] x = or_false (test x)
any_more test (y ∷ xs) x = ap (λ (b : Bool). test y || b) (any_more test xs x) ∙ or_assoc (test y) (list_any test xs) (test x)

-- ---- an arrival

last_more : (last conn other : ℕ) → ltb last conn ≡ true → ltb conn other ≡ (ltb last other && ltb conn other)
last_more last conn other h = grind (arith, nat_tests)

arrival_ends : (arrived ended same : Bool) → (same ≡ true → ended ≡ false) → cond same (Some false) (cond arrived (Some ended) None) ≡ cond (arrived || same) (Some (ended || false)) None
arrival_ends arrived true true h = absurd (clash (h refl))
arrival_ends true false true h = refl
arrival_ends false false true h = refl
arrival_ends true ended false h = ap (λ (b : Bool). Some b) (sym (or_false ended))
arrival_ends false ended false h = refl

no_end_before : (acts : List Act) (a : Arrivals) (conn : ℕ) → Follows acts a → is_rising acts conn ≡ true → (b : Bool) → has_ended acts conn ≡ b → b ≡ false
no_end_before acts a conn f h true e = absurd (clash (sym (f.arrived conn e) ∙ rising_is_new acts conn h))
no_end_before acts a conn f h false e = refl

still_arrived : (arrived ended same : Bool) → (ended ≡ true → arrived ≡ true) → (ended || false) ≡ true → (arrived || same) ≡ true
still_arrived true ended same h k = refl
still_arrived false true same h k = absurd (clash (sym (h refl)))
still_arrived false false same h k = absurd cc

pub follows_arrival : (acts : List Act) (conn : Conn) (credit : Option ℕ) (a b : Arrivals) → 1 ≤ conn.0 → Follows acts a → is_rising acts conn.0 ≡ true → Arrives conn.0 a b → Follows (acts ++ act.Arrive conn credit ∷ []) b
follows_arrival acts conn credit a b one f rises h = record {
  last = λ q least. ap (λ (n : ℕ). ltb n q) h.last ∙ last_more a.last conn.0 q (f.last conn.0 one ∙ rises) ∙ ap (λ (t : Bool). t && ltb conn.0 q) (f.last q least) ∙ sym (all_more (is_below q) acts (act.Arrive conn credit));
  ended = λ q.
      let before : (eqb conn.0 q ≡ true) → has_ended acts q ≡ false = λ e. subst (λ (n : ℕ). has_ended acts n ≡ false) (eqb-true conn.0 q e) (no_end_before acts a conn.0 f rises (has_ended acts conn.0) refl) in
      h.ended q ∙ ap (λ (o : Option Bool). cond (eqb conn.0 q) (Some false) o) (f.ended q) ∙ arrival_ends (has_arrived acts q) (has_ended acts q) (eqb conn.0 q) before
      ∙ ap (λ (t : Bool). cond t (Some (has_ended acts q || false)) None) (sym (any_more (is_arrival q) acts (act.Arrive conn credit)))
      ∙ ap (λ (t : Bool). cond (has_arrived (acts ++ act.Arrive conn credit ∷ []) q) (Some t) None) (sym (any_more (is_ending q) acts (act.Arrive conn credit)));
  arrived = λ q e. any_more (is_arrival q) acts (act.Arrive conn credit) ∙ still_arrived (has_arrived acts q) (has_ended acts q) (eqb conn.0 q) (f.arrived q) (sym (any_more (is_ending q) acts (act.Arrive conn credit)) ∙ e);
}

-- ---- an end

end_ends : (arrived ended same : Bool) → (same ≡ true → arrived ≡ true) → cond same (Some true) (cond arrived (Some ended) None) ≡ cond (arrived || false) (Some (ended || same)) None
end_ends true true true h = refl
end_ends true false true h = refl
end_ends false ended true h = absurd (clash (sym (h refl)))
end_ends true ended false h = ap (λ (b : Bool). Some b) (sym (or_false ended))
end_ends false ended false h = refl

end_arrived : (arrived ended same : Bool) → (ended ≡ true → arrived ≡ true) → (same ≡ true → arrived ≡ true) → (ended || same) ≡ true → (arrived || false) ≡ true
end_arrived true ended same h k e = refl
end_arrived false true same h k e = absurd (clash (sym (h refl)))
end_arrived false false true h k e = absurd (clash (sym (k refl)))
end_arrived false false false h k e = absurd cc

pub follows_end : (acts : List Act) (end : Act) (conn : ℕ) (a b : Arrivals) → ((q : ℕ) → is_below q end ≡ true) → ((q : ℕ) → is_arrival q end ≡ false) → ((q : ℕ) → is_ending q end ≡ eqb conn q) → Follows acts a → has_arrived acts conn ≡ true → Ends conn a b → Follows (acts ++ end ∷ []) b
follows_end acts end conn a b below arrival ending f there h = record {
  last = λ q least. ap (λ (n : ℕ). ltb n q) h.last ∙ f.last q least ∙ sym (all_more (is_below q) acts end ∙ ap (λ (t : Bool). is_rising acts q && t) (below q) ∙ and_true (is_rising acts q));
  ended = λ q.
      let here : (eqb conn q ≡ true) → has_arrived acts q ≡ true = λ e. subst (λ (n : ℕ). has_arrived acts n ≡ true) (eqb-true conn q e) there in
      h.ended q ∙ ap (λ (o : Option Bool). cond (eqb conn q) (Some true) o) (f.ended q) ∙ end_ends (has_arrived acts q) (has_ended acts q) (eqb conn q) here
      ∙ ap (λ (t : Bool). cond t (Some (has_ended acts q || eqb conn q)) None) (sym (any_more (is_arrival q) acts end ∙ ap (λ (t : Bool). has_arrived acts q || t) (arrival q)))
      ∙ ap (λ (t : Bool). cond (has_arrived (acts ++ end ∷ []) q) (Some t) None) (sym (any_more (is_ending q) acts end ∙ ap (λ (t : Bool). has_ended acts q || t) (ending q)));
  arrived = λ q e.
      let here : (eqb conn q ≡ true) → has_arrived acts q ≡ true = λ e. subst (λ (n : ℕ). has_arrived acts n ≡ true) (eqb-true conn q e) there in
      any_more (is_arrival q) acts end ∙ ap (λ (t : Bool). has_arrived acts q || t) (arrival q)
      ∙ end_arrived (has_arrived acts q) (has_ended acts q) (eqb conn q) (f.arrived q) here (sym (any_more (is_ending q) acts end ∙ ap (λ (t : Bool). has_ended acts q || t) (ending q)) ∙ e);
}

-- ---- any other act

pub follows_other : (acts : List Act) (other : Act) (a : Arrivals) → ((q : ℕ) → is_below q other ≡ true) → ((q : ℕ) → is_arrival q other ≡ false) → ((q : ℕ) → is_ending q other ≡ false) → Follows acts a → Follows (acts ++ other ∷ []) a
follows_other acts other a below arrival ending f =
    let rising : (q : ℕ) → is_rising (acts ++ other ∷ []) q ≡ is_rising acts q = λ q. all_more (is_below q) acts other ∙ ap (λ (t : Bool). is_rising acts q && t) (below q) ∙ and_true (is_rising acts q) in
    let arrived : (q : ℕ) → has_arrived (acts ++ other ∷ []) q ≡ has_arrived acts q = λ q. any_more (is_arrival q) acts other ∙ ap (λ (t : Bool). has_arrived acts q || t) (arrival q) ∙ or_false (has_arrived acts q) in
    let ended : (q : ℕ) → has_ended (acts ++ other ∷ []) q ≡ has_ended acts q = λ q. any_more (is_ending q) acts other ∙ ap (λ (t : Bool). has_ended acts q || t) (ending q) ∙ or_false (has_ended acts q) in
    record {
      last = λ q least. f.last q least ∙ sym (rising q);
      ended = λ q. f.ended q ∙ ap (λ (t : Bool). cond t (Some (has_ended acts q)) None) (sym (arrived q)) ∙ ap (λ (t : Bool). cond (has_arrived (acts ++ other ∷ []) q) (Some t) None) (sym (ended q));
      arrived = λ q e. arrived q ∙ f.arrived q (sym (ended q) ∙ e);
    }

-- ---- acts without a fault

no_rising_fault : (b : Bool) (x : Fault) → cond b None (Some x) ≡ None → b ≡ true
no_rising_fault true x e = refl
no_rising_fault false x e = absurd cc

no_unknown : (b : Bool) (x : Fault) (o : Option Fault) → cond (not b) (Some x) o ≡ None → b ≡ true
no_unknown true x o e = refl
no_unknown false x o e = absurd cc

pub rises : (acts : List Act) (conn : ℕ) → rising_fault acts conn ≡ None → is_rising acts conn ≡ true
rises acts conn e = no_rising_fault (is_rising acts conn) _ e

pub has_named : (acts : List Act) (conn : ℕ) → naming_fault acts conn ≡ None → has_arrived acts conn ≡ true
has_named acts conn e = no_rising_fault (has_arrived acts conn) _ e

pub has_come : (acts : List Act) (conn : ℕ) → sending_fault acts conn ≡ None → has_arrived acts conn ≡ true
has_come acts conn e = no_unknown (has_arrived acts conn) _ _ e

-- ---- the number of an arrival

pub rising_none : (acts : List Act) (a : Arrivals) (conn : ℕ) → 1 ≤ conn → Follows acts a → a.last < conn → None ≡ rising_fault acts conn
rising_none acts a conn one f h = rw (sym (f.last conn one), lt-ltb a.last conn h) refl

pub rising_some : (acts : List Act) (a : Arrivals) (conn : ℕ) → 1 ≤ conn → Follows acts a → conn ≤ a.last → Some fault.NotRising ≡ rising_fault acts conn
rising_some acts a conn one f h = rw (sym (f.last conn one), le-ltb a.last conn h) refl
