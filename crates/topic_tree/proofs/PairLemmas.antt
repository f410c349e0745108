-- The topics of each connection, of the pairs that a map makes.
use Rattle.topic_tree.proofs.Below.{◌≡◌, ℕ, List, [], ◌∷◌, ◌++◌, Option, Some, None, Bool, true, false, cond, map, refl, sym, ap, ◌∙◌, nat_eq, arith, append-nil, subst, AllByRecursion, IsStrictlySortedBy, unwrap_or, is_some, nat_cmp, is_eq, Less, lookup, keys_of, BTreeMap, get, is_at, IsOrdered, WritesThrough, nat_tests, topics_of, pairs_of}
use Rattle.std.specs.BTreeMap.{Updates}

topics_append : (xs ys : List (ℕ × List ℕ)) (c : ℕ) → topics_of (xs ++ ys) c ≡ topics_of xs c ++ topics_of ys c
topics_append [] ys c = refl
topics_append (x ∷ xs) ys c = by (nat_eq x.0 c) (topics_append xs ys c)
  where
    by : (b : Bool) → topics_of (xs ++ ys) c ≡ topics_of xs c ++ topics_of ys c → cond b (x.1 ∷ topics_of (xs ++ ys) c) (topics_of (xs ++ ys) c) ≡ cond b (x.1 ∷ topics_of xs c) (topics_of xs c) ++ topics_of ys c
    by true e = ap (λ (z : List (List ℕ)). x.1 ∷ z) e
    by false e = e

topics_own : (k : ℕ) (topics : List (List ℕ)) (c : ℕ) → topics_of (map (λ topic. (k, topic)) topics) c ≡ cond (nat_eq k c) topics []
topics_own k [] c = by (nat_eq k c)
  where
    by : (b : Bool) → [] ≡ cond {A = List (List ℕ)} b [] []
    by true = refl
    by false = refl
topics_own k (x ∷ xs) c = by (nat_eq k c) (topics_own k xs c)
  where
    by : (b : Bool) → topics_of (map (λ topic. (k, topic)) xs) c ≡ cond b xs [] → cond b (x ∷ topics_of (map (λ topic. (k, topic)) xs) c) (topics_of (map (λ topic. (k, topic)) xs) c) ≡ cond b (x ∷ xs) []
    by true e = ap (λ (z : List (List ℕ)). x ∷ z) e
    by false e = e

-- a query for k passes at k alone
pub at_number : (k c : ℕ) → is_at (nat_cmp k) c ≡ nat_eq k c
at_number k c = grind (arith, nat_tests)

module _ {X : Type 0} where
  none_above : (c : ℕ) (es : List (ℕ × X)) → AllByRecursion (λ k. nat_cmp c k ≡ Less) (keys_of es) → lookup (is_at (nat_cmp c)) es ≡ None
  none_above c [] h = refl
  none_above c (e ∷ es) h = ap (λ o. cond (is_eq o) (Some e.1) (lookup (is_at (nat_cmp c)) es)) h.0 ∙ none_above c es h.1

-- each connection's topics are those that the map has for it
listed : (es : List (ℕ × List (List ℕ))) (c : ℕ) → IsStrictlySortedBy nat_cmp (keys_of es) → topics_of (pairs_of es) c ≡ unwrap_or (lookup (is_at (nat_cmp c)) es) []
unfolding IsStrictlySortedBy
listed [] c h = refl
listed (e ∷ es) c h =
    topics_append (map (λ topic. (e.0, topic)) e.1) (pairs_of es) c
    ∙ ap (λ (z : List (List ℕ)). z ++ topics_of (pairs_of es) c) (topics_own e.0 e.1 c)
    ∙ ap (λ (z : List (List ℕ)). cond (nat_eq e.0 c) e.1 [] ++ z) (listed es c h.1)
    ∙ by (nat_eq e.0 c) refl
  where
    by : (b : Bool) → nat_eq e.0 c ≡ b → cond b e.1 [] ++ unwrap_or (lookup (is_at (nat_cmp c)) es) [] ≡ unwrap_or (lookup (is_at (nat_cmp c)) (e ∷ es)) []
    by true q =
        let same : e.0 ≡ c = grind (arith, nat_tests) in
        let none : lookup (is_at (nat_cmp c)) es ≡ None = subst (λ z. lookup (is_at (nat_cmp z)) es ≡ None) same (none_above e.0 es h.0) in
        let here : is_at (nat_cmp c) e.0 ≡ true = grind (arith, nat_tests) in
        ap (λ (z : Option (List (List ℕ))). e.1 ++ unwrap_or z []) none ∙ append-nil e.1 ∙ sym (ap (λ (z : Bool). unwrap_or (cond z (Some e.1) (lookup (is_at (nat_cmp c)) es)) []) here)
    by false q =
        let other : is_at (nat_cmp c) e.0 ≡ false = grind (arith, nat_tests) in
        sym (ap (λ (z : Bool). unwrap_or (cond z (Some e.1) (lookup (is_at (nat_cmp c)) es)) []) other)

module _ (m : BTreeMap ℕ (List (List ℕ))) (ordered : IsOrdered nat_cmp m) where
  pub found : (c : ℕ) → unwrap_or (get nat_cmp m c) [] ≡ topics_of (pairs_of m.entries) c
  found c = sym (listed m.entries c ordered)

  -- one connection's topics become what a function makes of them
  module _ (f : List (List ℕ) → List (List ℕ)) (k : ℕ) where
    own : (ts : List (List ℕ)) → ts ≡ f (topics_of (pairs_of m.entries) k) → (other : ℕ)
        → cond (nat_eq k other) ts (topics_of (pairs_of m.entries) other) ≡ cond (nat_eq k other) (f (topics_of (pairs_of m.entries) other)) (topics_of (pairs_of m.entries) other)
    own ts e other = by (nat_eq k other) refl
      where
        by : (b : Bool) → nat_eq k other ≡ b → cond b ts (topics_of (pairs_of m.entries) other) ≡ cond b (f (topics_of (pairs_of m.entries) other)) (topics_of (pairs_of m.entries) other)
        by true q = let same : k ≡ other = grind (arith, nat_tests) in e ∙ ap (λ (z : ℕ). f (topics_of (pairs_of m.entries) z)) same
        by false q = refl

    pub changed : (n : BTreeMap ℕ (List (List ℕ))) (w : Option (List (List ℕ))) → IsOrdered nat_cmp n → Updates nat_cmp m n k w → unwrap_or w [] ≡ f (topics_of (pairs_of m.entries) k)
        → (other : ℕ) → topics_of (pairs_of n.entries) other ≡ cond (nat_eq k other) (f (topics_of (pairs_of m.entries) other)) (topics_of (pairs_of m.entries) other)
    changed n w rising u e other =
        listed n.entries other rising ∙ ap (λ (z : Option (List (List ℕ))). unwrap_or z []) (u.0 other)
        ∙ ap (λ (z : Bool). unwrap_or (cond z w (get nat_cmp m other)) []) (at_number k other)
        ∙ split (nat_eq k other) w (get nat_cmp m other)
        ∙ ap (λ (z : List (List ℕ)). cond (nat_eq k other) (unwrap_or w []) z) (found other)
        ∙ own (unwrap_or w []) e other
      where
        split : (b : Bool) (o p : Option (List (List ℕ))) → unwrap_or (cond b o p) [] ≡ cond b (unwrap_or o []) (unwrap_or p [])
        split true o p = refl
        split false o p = refl

    pub unchanged : topics_of (pairs_of m.entries) k ≡ f (topics_of (pairs_of m.entries) k)
        → (other : ℕ) → topics_of (pairs_of m.entries) other ≡ cond (nat_eq k other) (f (topics_of (pairs_of m.entries) other)) (topics_of (pairs_of m.entries) other)
    unchanged e other = by (nat_eq k other) refl
      where
        by : (b : Bool) → nat_eq k other ≡ b → topics_of (pairs_of m.entries) other ≡ cond b (f (topics_of (pairs_of m.entries) other)) (topics_of (pairs_of m.entries) other)
        by true q = let same : k ≡ other = grind (arith, nat_tests) in subst (λ (z : ℕ). topics_of (pairs_of m.entries) z ≡ f (topics_of (pairs_of m.entries) z)) same e
        by false q = refl

    pub written : (n : BTreeMap ℕ (List (List ℕ))) (old new : List (List ℕ)) → Some old ≡ get nat_cmp m k → new ≡ f old → WritesThrough nat_cmp (nat_cmp k) m new n
        → (other : ℕ) → topics_of (pairs_of n.entries) other ≡ cond (nat_eq k other) (f (topics_of (pairs_of m.entries) other)) (topics_of (pairs_of m.entries) other)
    written n old new there e through =
        changed n (Some new) through.4 (through.3 (ap is_some (sym there))) (e ∙ ap (λ (z : Option (List (List ℕ))). f (unwrap_or z [])) there ∙ ap f (found k))
