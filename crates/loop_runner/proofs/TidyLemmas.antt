-- As many entries as intakes, each entry with an intake: they are the same connections.
use Rattle.loop_runner.proofs.Below.{◌≡◌, ◌<◌, ℕ, List, [], ◌∷◌, length, map, Bool, true, false, is_some, nat_eq, ◌||◌, refl, sym, ap, ◌∙◌, subst, arith, IsSome, length-map, list_any, AllByRecursion, IsDistinct, nat_cmp, eq_by_cmp, eq_by_cmp_equiv, lookup, BTreeMap, get, btree_map_len, nat_cmp_total, length-le_from_keys, nat_tests, Entry, has_entry, AreAbove, AreRising, by_cases, or_left, or_right, Intake}

abbrev eqn : ℕ → ℕ → Bool
eqn = eq_by_cmp nat_cmp

abbrev conns : List Entry → List ℕ
conns entries = map (λ (e : Entry). e.conn) entries

apart : (n m : ℕ) → n < m → eqn n m ≡ false
apart n m lt = grind (arith, nat_tests)

above_apart : (n : ℕ) (es : List Entry) → AreAbove n es → AllByRecursion (λ y. eqn n y ≡ false) (conns es)
above_apart n [] a = tt {0}
above_apart n (e ∷ es) a = (apart n e.conn a.0, above_apart n es a.1)

distinct_rising : (es : List Entry) → AreRising es → IsDistinct eqn (conns es)
unfolding IsDistinct
distinct_rising [] r = tt {0}
distinct_rising (e ∷ es) r = (above_apart e.conn es r.0, distinct_rising es r.1)

other : (c n : ℕ) → nat_eq n c ≡ false → eqn c n ≡ false
other c n e = grind (arith, nat_tests)

same : (c n : ℕ) → eqn c n ≡ true → nat_eq n c ≡ true
same c n e = grind (arith, nat_tests)

absent_apart : (c : ℕ) (es : List Entry) → has_entry es c ≡ false → AllByRecursion (λ y. eqn c y ≡ false) (conns es)
absent_apart c [] a = tt {0}
absent_apart c (e ∷ es) a = (other c e.conn (or_left (nat_eq e.conn c) (has_entry es c) a), absent_apart c es (or_right (nat_eq e.conn c) (has_entry es c) a))

with_absent : (c : ℕ) (es : List Entry) → AreRising es → has_entry es c ≡ false → IsDistinct eqn (c ∷ conns es)
unfolding IsDistinct
with_absent c es r a = (absent_apart c es a, distinct_rising es r)

any_entry : (q : ℕ) (es : List Entry) → list_any (eqn q) (conns es) ≡ true → has_entry es q ≡ true
any_entry q [] e = e
any_entry q (x ∷ es) e = by_cases (eqn q x.conn)
    (λ here. ap (λ (z : Bool). z || has_entry es q) (same q x.conn here))
    (λ later. by_cases (nat_eq x.conn q)
    (λ here. ap (λ (z : Bool). z || has_entry es q) here)
    (λ there. ap (λ (z : Bool). z || has_entry es q) there ∙ any_entry q es (sym (ap (λ (z : Bool). z || list_any (eqn q) (conns es)) later) ∙ e)))

is_it : (c q : ℕ) → eqn q c ≡ true → q ≡ c
is_it c q e = grind (arith, nat_tests)

-- an intake of a connection that is no entry is one too many
too_many : (entries : List Entry) (es : List (ℕ × Intake)) (c : ℕ) → AreRising entries → ((q : ℕ) → has_entry entries q ≡ true → IsSome (lookup (eqn q) es)) → has_entry entries c ≡ false → IsSome (lookup (eqn c) es)
    → length entries < length es
too_many entries es c rising each absent there =
    let all = length-le_from_keys (eq_by_cmp_equiv nat_cmp_total) (c ∷ conns entries) es (with_absent c entries rising absent)
    (λ q e. by_cases (eqn q c)
    (λ here. subst (λ (z : ℕ). IsSome (lookup (eqn z) es)) (sym (is_it c q here)) there)
    (λ later. each q (any_entry q entries (sym (ap (λ (z : Bool). z || list_any (eqn q) (conns entries)) later) ∙ e)))) in
    let more = length-map entries (λ (e : Entry). e.conn) in
    omega arith

pub all_entries : (entries : List Entry) (m : BTreeMap ℕ Intake) (c : ℕ) → AreRising entries → btree_map_len m ≡ length entries → ((q : ℕ) → has_entry entries q ≡ true → is_some (get nat_cmp m q) ≡ true)
    → has_entry entries c ≡ is_some (get nat_cmp m c)
all_entries entries m c rising count each = by_cases (has_entry entries c)
    (λ has. has ∙ sym (each c has))
    (λ absent. by_cases (is_some (get nat_cmp m c))
    (λ there. absurd (let more = too_many entries m.entries c rising each absent there in omega arith))
    (λ none. absent ∙ sym none))
