-- The order of subscribers: by their topics, and then by their numbers.
use Rattle.topic_tree.proofs.Below.{◌≡◌, ℕ, ◌<◌, List, Bool, true, false, cond, not, ◌&&◌, ◌||◌, [], ◌∷◌, refl, sym, ap, ◌∙◌, nat_eq, subst, tied_then, nat_cmp_is, slice_get, IfSome, Excluded, Unbounded, slice_cmp, nat_cmp, is_eq, is_gt, ordering_then, ordering_reverse, Ordering, Less, Equal, Greater, is_at, BTreeSet, contains, Updates, IsKeyInRange, IsKeyRangeOf, IsLeBy, bytes_eq, nat_list_cmp_total, ranked, tied_itself, is_eq-slice_cmp, bytes_eq-Decides, Subscriber, subscriber, subscriber_cmp, IsNext}
use Rattle.topic_tree.proofs.PairLemmas.{at_number}

either_way : (b c : Bool) → (b && c) ≡ (c && b)
either_way true true = refl
either_way true false = refl
either_way false true = refl
either_way false false = refl

-- a query for a subscriber passes at it alone
at_subscriber : (topic : List ℕ) (conn : ℕ) (t : List ℕ) (c : ℕ) → is_at (subscriber_cmp (subscriber topic conn)) (subscriber t c) ≡ (nat_eq conn c && bytes_eq topic t)
at_subscriber topic conn t c =
    sym (tied_then (slice_cmp nat_cmp topic t) (nat_cmp conn c)) ∙ ap (λ (z : Bool). z && is_eq (nat_cmp conn c)) (is_eq-slice_cmp topic t) ∙ ap (λ (z : Bool). bytes_eq topic t && z) (at_number conn c)
    ∙ either_way (bytes_eq topic t) (nat_eq conn c)

with_one : (b c : Bool) → cond b true c ≡ (b || c)
with_one true c = refl
with_one false c = refl

without_one : (b c : Bool) → cond b false c ≡ (not b && c)
without_one true c = refl
without_one false c = refl

pub refuted : (b : Bool) → (b ≡ true → ⊥) → b ≡ false
refuted true h = absurd (h refl)
refuted false h = refl

-- of one topic, the order is that of the numbers
of_one_topic : (topic : List ℕ) (c d : ℕ) → subscriber_cmp (subscriber topic c) (subscriber topic d) ≡ nat_cmp c d
of_one_topic topic c d = ap (λ (z : Ordering). ordering_then z (nat_cmp c d)) (tied_itself nat_list_cmp_total topic)

-- who stands between two subscribers of one topic is one of it too
between : (topic t : List ℕ) (after c other : ℕ) → subscriber_cmp (subscriber topic after) (subscriber t c) ≡ Less → is_gt (subscriber_cmp (subscriber t c) (subscriber topic other)) ≡ false → topic ≡ t
between topic t after c other low high = by (slice_cmp nat_cmp topic t) refl low
  where
    reversed : slice_cmp nat_cmp t topic ≡ ordering_reverse (slice_cmp nat_cmp topic t)
    reversed = nat_list_cmp_total.antisymm t topic

    by : (o : Ordering) → slice_cmp nat_cmp topic t ≡ o → ordering_then o (nat_cmp after c) ≡ Less → topic ≡ t
    by Less e l =
        let back : slice_cmp nat_cmp t topic ≡ Greater = reversed ∙ ap ordering_reverse e in
        let clash : true ≡ false = sym (ap (λ (z : Ordering). is_gt (ordering_then z (nat_cmp c other))) back) ∙ high in
        cc
    by Equal e l = (bytes_eq-Decides topic t).0 (sym (is_eq-slice_cmp topic t) ∙ ap is_eq e)
    by Greater e l = cc

module _ (s n : BTreeSet Subscriber) (topic : List ℕ) (conn : ℕ) (key : Subscriber) (is : key ≡ subscriber topic conn) where
  updated : (b : Bool) → Updates subscriber_cmp s n key b → (t : List ℕ) (c : ℕ)
      → contains subscriber_cmp n (subscriber t c) ≡ cond (nat_eq conn c && bytes_eq topic t) b (contains subscriber_cmp s (subscriber t c))
  updated b u t c =
      u.0 (subscriber t c) ∙ ap (λ (k : Subscriber). cond (is_at (subscriber_cmp k) (subscriber t c)) b (contains subscriber_cmp s (subscriber t c))) is
      ∙ ap (λ (z : Bool). cond z b (contains subscriber_cmp s (subscriber t c))) (at_subscriber topic conn t c)

  pub added : Updates subscriber_cmp s n key true → (t : List ℕ) (c : ℕ)
      → contains subscriber_cmp n (subscriber t c) ≡ (nat_eq conn c && bytes_eq topic t || contains subscriber_cmp s (subscriber t c))
  added u t c = updated true u t c ∙ with_one (nat_eq conn c && bytes_eq topic t) (contains subscriber_cmp s (subscriber t c))

  pub removed : Updates subscriber_cmp s n key false → (t : List ℕ) (c : ℕ)
      → contains subscriber_cmp n (subscriber t c) ≡ (not (nat_eq conn c && bytes_eq topic t) && contains subscriber_cmp s (subscriber t c))
  removed u t c = updated false u t c ∙ without_one (nat_eq conn c && bytes_eq topic t) (contains subscriber_cmp s (subscriber t c))

-- the subscribers behind one of this topic with this number
module _ (s : BTreeSet Subscriber) (topic : List ℕ) (after : ℕ) (low : Subscriber) (is : low ≡ subscriber topic after) (r : List Subscriber) (inside : IsKeyRangeOf subscriber_cmp (Excluded low) Unbounded s r) where
  above : (other : ℕ) → after < other → subscriber_cmp low (subscriber topic other) ≡ Less
  above other l = ap (λ (k : Subscriber). subscriber_cmp k (subscriber topic other)) is ∙ of_one_topic topic after other ∙ sym (nat_cmp_is after other Less l)

  pub none_left : r ≡ [] → (other : ℕ) → after < other → contains subscriber_cmp s (subscriber topic other) ≡ false
  none_left e other l = inside.5 e (subscriber topic other) (above other l, tt)

  module _ (t : List ℕ) (c : ℕ) (rest : List Subscriber) (first : r ≡ subscriber t c ∷ rest) where
    head : IsKeyInRange subscriber_cmp (Excluded low) Unbounded s (subscriber t c)
    head = subst (λ (z : List Subscriber). IfSome (slice_get z 0) (IsKeyInRange subscriber_cmp (Excluded low) Unbounded s)) first inside.1

    behind : subscriber_cmp (subscriber topic after) (subscriber t c) ≡ Less
    behind = subst (λ (z : Subscriber). subscriber_cmp z (subscriber t c) ≡ Less) is head.0.0

    before : (other : ℕ) → after < other → contains subscriber_cmp s (subscriber topic other) ≡ true → is_gt (subscriber_cmp (subscriber t c) (subscriber topic other)) ≡ false
    before other l e = subst (λ (z : List Subscriber). IfSome (slice_get z 0) (λ k. IsLeBy subscriber_cmp k (subscriber topic other))) first (inside.2 (subscriber topic other) (above other l, tt) e)

    pub of_another : bytes_eq topic t ≡ false → (other : ℕ) → after < other → contains subscriber_cmp s (subscriber topic other) ≡ false
    of_another e other l = refuted (contains subscriber_cmp s (subscriber topic other))
        (λ has. let same : bytes_eq topic t ≡ true = (bytes_eq-Decides topic t).1 (between topic t after c other behind (before other l has)) in cc)

    pub next_is : bytes_eq topic t ≡ true → IsNext (λ other. contains subscriber_cmp s (subscriber topic other)) after c
    next_is e =
        let same = sym ((bytes_eq-Decides topic t).0 e) in
        record {
          above = ranked after c Less (sym (subst (λ (z : List ℕ). subscriber_cmp (subscriber topic after) (subscriber z c) ≡ Less) same behind) ∙ of_one_topic topic after c);
          has = subst (λ (z : List ℕ). contains subscriber_cmp s (subscriber z c) ≡ true) same head.1;
          least = λ other l below. refuted (contains subscriber_cmp s (subscriber topic other))
              (λ has. let low : is_gt (nat_cmp c other) ≡ false = ap is_gt (sym (of_one_topic topic c other)) ∙ subst (λ (z : List ℕ). is_gt (subscriber_cmp (subscriber z c) (subscriber topic other)) ≡ false) same (before other l has) in
              let high : true ≡ false = ap is_gt (nat_cmp_is c other Greater below) ∙ low in cc);
        }
