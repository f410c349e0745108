-- The topics of each connection and the subscribers of each topic go on alike.
use Rattle.topic_tree.proofs.Below.{◌≡◌, ℕ, ◌≤◌, ◌<◌, List, [], ◌∷◌, ◌++◌, Bool, true, false, cond, not, ◌&&◌, ◌||◌, refl, sym, ap, ◌∙◌, subst, Option, Some, None, Result, Ok, Err, nat_eq, arith, length, IfNone, OnOk, is_err, bytes_eq, nat_tests, topics_of, has_topic, is_pair, without_topic, ChangesTopics, IsNext, has_subscriber, AreTopics, AreThePairs, Subscribers}
use Rattle.topic_tree.proofs.TopicLemmas.{behind_has, without_has, no_topics, topics_behind, topics_without}

-- what an answer says that was no error
pub went_well : {T E P : Type 0} (r : Result T E) → false ≡ is_err r → OnOk r P → P
went_well (Ok x) e h = h
went_well (Err x) e h = cc

-- a test that answers alike finds the same next one
pub next_same : (f g : ℕ → Bool) (after conn : ℕ) → ((c : ℕ) → f c ≡ g c) → IsNext f after conn → IsNext g after conn
next_same f g after conn same x = record { above = x.above; has = sym (same conn) ∙ x.has; least = λ other l h. sym (same other) ∙ x.least other l h }

pub none_then : {X P Q : Type 0} (r : Option X) → (P → Q) → IfNone r P → IfNone r Q
none_then None f h = f h
none_then (Some x) f h = h

module _ (p q : List (ℕ × List ℕ)) (s u : Subscribers) (conn : ℕ) (old : AreThePairs p s) where
  -- what holds of both tables where one connection's topics change
  same_changed : (f : List (List ℕ) → List (List ℕ)) → ChangesTopics conn f p q → AreTopics (f (topics_of p conn))
      → ((t : List ℕ) (c : ℕ) → has_subscriber u t c ≡ has_topic t (cond (nat_eq conn c) (f (topics_of p c)) (topics_of p c))) → AreThePairs q u
  same_changed f x own y = record {
    same = λ t c. y t c ∙ sym (ap (has_topic t) (x c));
    topics = λ c. subst AreTopics (sym (x c)) (by c (nat_eq conn c) refl);
  }
    where
      by : (c : ℕ) (b : Bool) → nat_eq conn c ≡ b → AreTopics (cond b (f (topics_of p c)) (topics_of p c))
      by c true e = let is : conn ≡ c = grind (arith, nat_tests) in subst (λ (z : ℕ). AreTopics (f (topics_of p z))) is own
      by c false e = old.topics c

  pub same_added : (topic : List ℕ) → length topic ≤ 64 → length (topics_of p conn) < 64 → is_pair p topic conn ≡ false → ChangesTopics conn (λ topics. topics ++ topic ∷ []) p q
      → ((t : List ℕ) (c : ℕ) → has_subscriber u t c ≡ (nat_eq conn c && bytes_eq topic t || has_subscriber s t c)) → AreThePairs q u
  same_added topic short few absent x y = same_changed (λ topics. topics ++ topic ∷ []) x (topics_behind topic (topics_of p conn) (old.topics conn) few absent short)
      (λ t c. y t c ∙ ap (λ (z : Bool). nat_eq conn c && bytes_eq topic t || z) (old.same t c) ∙ by t c (nat_eq conn c))
    where
      by : (t : List ℕ) (c : ℕ) (b : Bool) → (b && bytes_eq topic t || is_pair p t c) ≡ has_topic t (cond b (topics_of p c ++ topic ∷ []) (topics_of p c))
      by t c true = sym (behind_has topic t (topics_of p c))
      by t c false = refl

  pub same_removed : (topic : List ℕ) → ChangesTopics conn (without_topic topic) p q
      → ((t : List ℕ) (c : ℕ) → has_subscriber u t c ≡ (not (nat_eq conn c && bytes_eq topic t) && has_subscriber s t c)) → AreThePairs q u
  same_removed topic x y = same_changed (without_topic topic) x (topics_without topic (topics_of p conn) (old.topics conn))
      (λ t c. y t c ∙ ap (λ (z : Bool). not (nat_eq conn c && bytes_eq topic t) && z) (old.same t c) ∙ by t c (nat_eq conn c))
    where
      by : (t : List ℕ) (c : ℕ) (b : Bool) → (not (b && bytes_eq topic t) && is_pair p t c) ≡ has_topic t (cond b (without_topic topic (topics_of p c)) (topics_of p c))
      by t c true = sym (without_has topic t (topics_of p c))
      by t c false = refl

  pub same_dropped : ChangesTopics conn (λ _. []) p q
      → ((t : List ℕ) (c : ℕ) → has_subscriber u t c ≡ (not (nat_eq conn c && is_pair p t conn) && has_subscriber s t c)) → AreThePairs q u
  same_dropped x y = same_changed (λ _. []) x no_topics
      (λ t c. y t c ∙ ap (λ (z : Bool). not (nat_eq conn c && is_pair p t conn) && z) (old.same t c) ∙ by t c (nat_eq conn c) refl)
    where
      none : (z : Bool) → (not z && z) ≡ false
      none true = refl
      none false = refl

      by : (t : List ℕ) (c : ℕ) (b : Bool) → nat_eq conn c ≡ b → (not (b && is_pair p t conn) && is_pair p t c) ≡ has_topic t (cond b [] (topics_of p c))
      by t c true e = let is : conn ≡ c = grind (arith, nat_tests) in subst (λ (z : ℕ). (not (is_pair p t conn) && is_pair p t z) ≡ false) is (none (is_pair p t conn))
      by t c false e = refl

pub same_at_first : (p : List (ℕ × List ℕ)) (s : Subscribers) → p ≡ [] → ((t : List ℕ) (c : ℕ) → has_subscriber s t c ≡ false) → AreThePairs p s
same_at_first p s e none = record {
  same = λ t c. none t c ∙ sym (ap (λ (z : List (ℕ × List ℕ)). is_pair z t c) e);
  topics = λ c. subst (λ (z : List (ℕ × List ℕ)). AreTopics (topics_of z c)) (sym e) no_topics;
}

pub changes_nothing : (p : List (ℕ × List ℕ)) (conn : ℕ) (f : List (List ℕ) → List (List ℕ)) → f (topics_of p conn) ≡ topics_of p conn → ChangesTopics conn f p p
changes_nothing p conn f e other = by (nat_eq conn other) refl
  where
    by : (b : Bool) → nat_eq conn other ≡ b → topics_of p other ≡ cond b (f (topics_of p other)) (topics_of p other)
    by true q = let same : conn ≡ other = grind (arith, nat_tests) in subst (λ (z : ℕ). topics_of p z ≡ f (topics_of p z)) same (sym e)
    by false q = refl
