-- Lists of topics: one among them, and one taken away.
use Rattle.topic_tree.proofs.Below.{◌≡◌, ℕ, List, [], ◌∷◌, ◌++◌, Bool, true, false, cond, not, ◌&&◌, ◌||◌, ◌+◌, ◌<◌, ◌≤◌, arith, subst, length, take, Some, map, refl, sym, ap, ◌∙◌, list_any, filter, slice_get, IsDistinct, AllByRecursion, bytes_eq, any-filter_same, nat_list_eq_equiv, list_any-append, list_any_more, length_push, IsDistinct-push, get_or_from_slice_get, bytes_eq-Decides, has_topic, without_topic, AreTopics}

pub any_mapped : {X Y : Type 0} (test : Y → Bool) (f : X → Y) (xs : List X) → list_any test (map f xs) ≡ list_any (λ x. test (f x)) xs
any_mapped test f [] = refl
any_mapped test f (x ∷ xs) = ap (λ (z : Bool). test (f x) || z) (any_mapped test f xs)

pub filter_mapped : {X Y : Type 0} (test : Y → Bool) (f : X → Y) (xs : List X) → filter test (map f xs) ≡ map f (filter (λ x. test (f x)) xs)
filter_mapped test f [] = refl
filter_mapped {X} {Y} test f (x ∷ xs) = by (test (f x)) (filter_mapped test f xs)
  where
    by : (b : Bool) → filter test (map f xs) ≡ map f (filter (λ y. test (f y)) xs) → cond b (f x ∷ filter test (map f xs)) (filter test (map f xs)) ≡ map f (cond b (x ∷ filter (λ y. test (f y)) xs) (filter (λ y. test (f y)) xs))
    by true e = ap (λ (z : List Y). f x ∷ z) e
    by false e = e

-- a topic that is not there is taken away from nothing
pub without_absent : (topic : List ℕ) (topics : List (List ℕ)) → has_topic topic topics ≡ false → without_topic topic topics ≡ topics
without_absent topic [] h = refl
without_absent topic (first ∷ rest) h = by (bytes_eq topic first) (without_absent topic rest) h
  where
    by : (b : Bool) → (has_topic topic rest ≡ false → without_topic topic rest ≡ rest) → (b || has_topic topic rest) ≡ false → cond (not b) (first ∷ without_topic topic rest) (without_topic topic rest) ≡ first ∷ rest
    by true later e = cc
    by false later e = ap (λ (z : List (List ℕ)). first ∷ z) (later e)

-- the others stay
pub without_has : (topic other : List ℕ) (topics : List (List ℕ)) → has_topic other (without_topic topic topics) ≡ (not (bytes_eq topic other) && has_topic other topics)
without_has topic other topics =
    any-filter_same (bytes_eq other) (λ z. not (bytes_eq topic z)) (not (bytes_eq topic other)) (λ z e. ap (λ (y : List ℕ). not (bytes_eq topic y)) (sym ((bytes_eq-Decides other z).0 e))) topics

same_either_way : (topic other : List ℕ) → bytes_eq topic other ≡ bytes_eq other topic
same_either_way = nat_list_eq_equiv.symm

-- one more behind them is there too
pub behind_has : (topic other : List ℕ) (topics : List (List ℕ)) → has_topic other (topics ++ topic ∷ []) ≡ (bytes_eq topic other || has_topic other topics)
behind_has topic other topics =
    list_any-append (bytes_eq other) topics (topic ∷ []) ∙ swapped (has_topic other topics) (bytes_eq other topic) ∙ ap (λ (z : Bool). z || has_topic other topics) (same_either_way other topic)
  where
    swapped : (a b : Bool) → (a || (b || false)) ≡ (b || a)
    swapped true true = refl
    swapped true false = refl
    swapped false true = refl
    swapped false false = refl

-- one more of them is taken away, of those of one connection
pub walked : (topics : List (List ℕ)) (i : ℕ) (topic other : List ℕ) (own has : Bool) → i < length topics → slice_get topics i ≡ Some topic
    → (not (own && bytes_eq topic other) && (not (own && has_topic other (take i topics)) && has)) ≡ (not (own && has_topic other (take (i + 1) topics)) && has)
walked topics i topic other own has l at =
    joined own (bytes_eq topic other) (has_topic other (take i topics)) has
    ∙ ap (λ (z : Bool). not (own && z) && has) (ap (λ (z : Bool). has_topic other (take i topics) || z) (same_either_way topic other ∙ ap (bytes_eq other) (sym (get_or_from_slice_get topics i topic topic at)))
    ∙ sym (list_any_more (bytes_eq other) topics i topic l))
  where
    joined : (n m h x : Bool) → (not (n && m) && (not (n && h) && x)) ≡ (not (n && (h || m)) && x)
    joined false m h x = refl
    joined true true true x = refl
    joined true true false x = refl
    joined true false true x = refl
    joined true false false x = refl

-- ---- what holds of the topics of one connection

pub no_topics : AreTopics []
unfolding IsDistinct
no_topics = record { few = omega arith; once = tt; short = λ topic e. cc }

pub topics_behind : (topic : List ℕ) (topics : List (List ℕ)) → AreTopics topics → length topics < 64 → has_topic topic topics ≡ false → length topic ≤ 64 → AreTopics (topics ++ topic ∷ [])
topics_behind topic topics x few absent short = record {
  few = let one = length_push topics topic in omega arith;
  once = IsDistinct-push nat_list_eq_equiv topics topic x.once absent;
  short = λ other e. by other (bytes_eq topic other) ((bytes_eq-Decides topic other).0) (sym (behind_has topic other topics) ∙ e);
}
  where
    by : (other : List ℕ) (b : Bool) → (b ≡ true → topic ≡ other) → (b || has_topic other topics) ≡ true → length other ≤ 64
    by other true h e = subst (λ (z : List ℕ). length z ≤ 64) (h refl) short
    by other false h e = x.short other e

module _ {X : Type 0} (test : X → Bool) where
  all_filtered : (P : X → Type 0) (xs : List X) → AllByRecursion P xs → AllByRecursion P (filter test xs)
  all_filtered P [] h = tt
  all_filtered P (x ∷ xs) h = by (test x) (all_filtered P xs h.1)
    where
      by : (b : Bool) → AllByRecursion P (filter test xs) → AllByRecursion P (cond b (x ∷ filter test xs) (filter test xs))
      by true rest = (h.0, rest)
      by false rest = rest

  once_filtered : (same : X → X → Bool) (xs : List X) → IsDistinct same xs → IsDistinct same (filter test xs)
  unfolding IsDistinct
  once_filtered same [] h = tt
  once_filtered same (x ∷ xs) h = by (test x) (all_filtered (λ y. same x y ≡ false) xs h.0) (once_filtered same xs h.1)
    where
      by : (b : Bool) → AllByRecursion (λ y. same x y ≡ false) (filter test xs) → IsDistinct same (filter test xs) → IsDistinct same (cond b (x ∷ filter test xs) (filter test xs))
      by true head rest = (head, rest)
      by false head rest = rest

  fewer_filtered : (xs : List X) → length (filter test xs) ≤ length xs
  fewer_filtered [] = omega arith
  fewer_filtered (x ∷ xs) = by (test x) (fewer_filtered xs)
    where
      by : (b : Bool) → length (filter test xs) ≤ length xs → length (cond b (x ∷ filter test xs) (filter test xs)) ≤ length (x ∷ xs)
      by true h = omega arith
      by false h = omega arith

pub topics_without : (topic : List ℕ) (topics : List (List ℕ)) → AreTopics topics → AreTopics (without_topic topic topics)
topics_without topic topics x = record {
  few = let fewer = fewer_filtered (λ other. not (bytes_eq topic other)) topics in let few = x.few in omega arith;
  once = once_filtered (λ other. not (bytes_eq topic other)) bytes_eq topics x.once;
  short = λ other e. x.short other (stays (bytes_eq topic other) (sym (without_has topic other topics) ∙ e));
}
  where
    stays : {y : Bool} (b : Bool) → (not b && y) ≡ true → y ≡ true
    stays true e = cc
    stays false e = e
