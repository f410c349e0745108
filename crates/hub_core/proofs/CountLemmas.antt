-- How many subscribed to a topic.
use Rattle.hub_core.proofs.Below.{◌≡◌, ◌<◌, ◌≤◌, ◌+◌, ℕ, suc, zero, List, [], Option, Some, Bool, true, false, cond, not, ◌&&◌, nat_eq, nat_lt, refl, sym, ap, ◌∙◌, subst, arith, entry_of, has_entry, by_cases, clash, present_entry, is_gone, Phase, Head, Open, Leaving, Ending, Gone, TableState, nat_tests, topics_of, has_topic, is_pair, IsNext, IsLast, is_open, is_sender, receives, IsHub, count_below, TellingsState}

-- ---- who is subscribed

pub subscriber_open : (a : TableState) (p : List (ℕ × List ℕ)) (r : TellingsState) (topic : List ℕ) (c : ℕ) → IsHub a p r → is_pair p topic c ≡ true → is_open (Some (entry_of a.entries c).phase) ≡ true
subscriber_open a p r topic c whole has = by_cases (is_open (Some (entry_of a.entries c).phase)) (λ e. e) (λ off. clash false refl (ap (has_topic topic) (sym (whole.topics c off)) ∙ has))

not_gone : (phase : Phase) → is_open (Some phase) ≡ true → not (is_gone phase) ≡ true
not_gone Open e = refl
not_gone Head e = clash false refl e
not_gone Leaving e = clash false refl e
not_gone Ending e = clash false refl e
not_gone Gone e = clash false refl e

pub subscriber_present : (a : TableState) (p : List (ℕ × List ℕ)) (r : TellingsState) (topic : List ℕ) (c : ℕ) → IsHub a p r → is_pair p topic c ≡ true → not (is_gone (entry_of a.entries c).phase) ≡ true
subscriber_present a p r topic c whole has = not_gone (entry_of a.entries c).phase (subscriber_open a p r topic c whole has)

subscriber_entry : (a : TableState) (p : List (ℕ × List ℕ)) (r : TellingsState) (topic : List ℕ) (c : ℕ) → IsHub a p r → is_pair p topic c ≡ true → has_entry a.entries c ≡ true
subscriber_entry a p r topic c whole has = present_entry a.entries c (subscriber_present a p r topic c whole has)

pub subscriber_known : (a : TableState) (p : List (ℕ × List ℕ)) (r : TellingsState) (topic : List ℕ) (c : ℕ) → IsHub a p r → is_pair p topic c ≡ true → c ≤ a.named
subscriber_known a p r topic c whole has = whole.table.named c (subscriber_entry a p r topic c whole has)

-- number 0 is none
pub zero_topics : (a : TableState) (p : List (ℕ × List ℕ)) (r : TellingsState) → IsHub a p r → topics_of p 0 ≡ []
zero_topics a p r whole = whole.topics 0 (by_cases (is_open (Some (entry_of a.entries 0).phase))
    (λ e. absurd (let h = whole.table.first 0 (present_entry a.entries 0 (not_gone (entry_of a.entries 0).phase e)) in omega arith))
    (λ e. e))

-- ---- counting

count_skips : (test : ℕ → Bool) (low high : ℕ) → low ≤ high → ((c : ℕ) → low ≤ c → c < high → test c ≡ false) → count_below test high ≡ count_below test low
count_skips test low zero le none = let h : low ≡ zero = omega arith in sym (ap (count_below test) h)
count_skips test low (suc high) le none = by_cases (nat_lt high low)
    (λ e. let h : low ≡ suc high = grind (arith, nat_tests) in sym (ap (count_below test) h))
    (λ e. let l : low ≤ high = grind (arith, nat_tests) in
    ap (λ (z : Bool). cond z (suc (count_below test high)) (count_below test high)) (none high l (omega arith)) ∙ count_skips test low high l (λ c a b. none c a (omega arith)))

none_counted : (test : ℕ → Bool) (n : ℕ) → count_below test n ≡ 0 → (c : ℕ) → c < n → test c ≡ false
none_counted test zero none c l = absurd (omega arith)
none_counted test (suc n) none c l = by_cases (test n)
    (λ e. absurd (let h : suc (count_below test n) ≡ 0 = sym (ap (λ (z : Bool). cond z (suc (count_below test n)) (count_below test n)) e) ∙ none in omega arith))
    (λ e. by_cases (nat_eq c n)
    (λ q. let h : n ≡ c = grind (arith, nat_tests) in subst (λ (z : ℕ). test z ≡ false) h e)
    (λ q. none_counted test n (sym (ap (λ (z : Bool). cond z (suc (count_below test n)) (count_below test n)) e) ∙ none) c (grind (arith, nat_tests))))

module _ (p : List (ℕ × List ℕ)) (sender : Option ℕ) (topic : List ℕ) where
  none_between : (c : ℕ) → is_pair p topic c ≡ false → receives p sender topic c ≡ false
  none_between c e = one (not (is_sender sender c)) (is_pair p topic c) e
    where
      one : (b h : Bool) → h ≡ false → (b && h) ≡ false
      one true h e = e
      one false h e = refl

  pub count_next : (after conn count more : ℕ) → count ≡ count_below (receives p sender topic) (suc after) → IsNext (is_pair p topic) after conn → more ≡ cond (is_sender sender conn) count (count + 1)
      → more ≡ count_below (receives p sender topic) (suc conn)
  count_next after conn count more so_far next e =
      let skip : count_below (receives p sender topic) conn ≡ count_below (receives p sender topic) (suc after) =
      count_skips (receives p sender topic) (suc after) conn (let h = next.above in omega arith) (λ c a b. none_between c (next.least c (omega arith) b)) in
      e ∙ one (is_sender sender conn) (is_pair p topic conn) count (count_below (receives p sender topic) conn) next.has (so_far ∙ sym skip)
    where
      one : (s h : Bool) (n m : ℕ) → h ≡ true → n ≡ m → cond s n (n + 1) ≡ cond (not s && h) (suc m) m
      one true h n m e same = same
      one false true n m e same = let k : n + 1 ≡ suc m = omega arith in k
      one false false n m e same = clash false refl e

  pub count_end : (after named count : ℕ) → count ≡ count_below (receives p sender topic) (suc after) → after ≤ named → IsLast (is_pair p topic) after → count ≡ count_below (receives p sender topic) (suc named)
  count_end after named count so_far le last = so_far ∙ sym (count_skips (receives p sender topic) (suc after) (suc named) (omega arith) (λ c a b. none_between c (last c (omega arith))))

  -- where nobody is counted, nobody gets it
  pub nobody : (a : TableState) (r : TellingsState) → IsHub a p r → count_below (receives p sender topic) (suc a.named) ≡ 0 → (c : ℕ) → receives p sender topic c ≡ false
  nobody a r whole none c = by_cases (nat_lt c (suc a.named))
      (λ e. none_counted (receives p sender topic) (suc a.named) none c (grind (arith, nat_tests)))
      (λ e. by_cases (is_pair p topic c)
      (λ has. absurd (let h = subscriber_known a p r topic c whole has in let k : suc a.named ≤ c = grind (arith, nat_tests) in omega arith))
      (λ has. none_between c has))

  pub count_begins : topics_of p 0 ≡ [] → 0 ≡ count_below (receives p sender topic) (suc 0)
  count_begins none = sym (ap (λ (z : Bool). cond z (suc zero) zero) (none_between 0 (ap (has_topic topic) none)))
