-- Sets of numbers: a number at its place, added or removed.
use Rattle.hub_table.proofs.Below.{◌≡◌, ◌≢◌, ◌<◌, ◌≤◌, ℕ, ◌+◌, List, [], ◌∷◌, Some, Bool, true, false, cond, nat_eq, nat_lt, length, get_or, refl, sym, ap, ◌∙◌, subst, arith, zero, suc, insert, remove, slice_get, nat_tests, by_cases, equal_is, is_equal, is_unequal, unequal_is, is_less, not_less, less_is, AreGreater, AreRisingNumbers, added, removed, marked, first_above, nat_cmp, IsBinarySearchResult, Ok, Err, searched, length-insert}

-- ---- what is read of a set

greater_at : (a : ℕ) (ns : List ℕ) (i : ℕ) → AreGreater a ns → i < length ns → a < get_or ns i 0
greater_at a [] i h l = absurd (omega arith)
greater_at a (n ∷ ns) zero h l = h.0
greater_at a (n ∷ ns) (suc i) h l = greater_at a ns i h.1 (omega arith)

-- the numbers stand in order
pub in_order : (ns : List ℕ) → AreRisingNumbers ns → (i j : ℕ) → i ≤ j → j < length ns → get_or ns i 0 ≤ get_or ns j 0
in_order [] up i j l m = absurd (omega arith)
in_order (n ∷ ns) up zero zero l m = omega arith
in_order (n ∷ ns) up zero (suc j) l m = let h = greater_at n ns j up.0 (omega arith) in omega arith
in_order (n ∷ ns) up (suc i) zero l m = absurd (omega arith)
in_order (n ∷ ns) up (suc i) (suc j) l m = in_order ns up.1 i j (omega arith) (omega arith)

below_in_order : (ns : List ℕ) → AreRisingNumbers ns → (i j : ℕ) → i < j → j < length ns → get_or ns i 0 < get_or ns j 0
below_in_order [] up i j l m = absurd (omega arith)
below_in_order (n ∷ ns) up i zero l m = absurd (omega arith)
below_in_order (n ∷ ns) up zero (suc j) l m = greater_at n ns j up.0 (omega arith)
below_in_order (n ∷ ns) up (suc i) (suc j) l m = below_in_order ns up.1 i j (omega arith) (omega arith)

greater_less : (a b : ℕ) (ns : List ℕ) → b ≤ a → AreGreater a ns → AreGreater b ns
greater_less a b [] l h = tt {0}
greater_less a b (n ∷ ns) l h = (let k = h.0 in omega arith, greater_less a b ns l h.1)

-- ---- the number stands at a place

added_here : (ns : List ℕ) (c i : ℕ) → AreRisingNumbers ns → i < length ns → get_or ns i 0 ≡ c → added ns c ≡ ns
added_here [] c i up l e = absurd (omega arith)
added_here (n ∷ ns) c zero up l e =
    ap (λ (z : Bool). cond z (n ∷ added ns c) (cond (nat_eq n c) (n ∷ ns) (c ∷ n ∷ ns))) (not_less n c (omega arith)) ∙ ap (λ (z : Bool). cond z (n ∷ ns) (c ∷ n ∷ ns)) (is_equal n c e)
added_here (n ∷ ns) c (suc i) up l e =
    let h = greater_at n ns i up.0 (omega arith) in
    ap (λ (z : Bool). cond z (n ∷ added ns c) (cond (nat_eq n c) (n ∷ ns) (c ∷ n ∷ ns))) (is_less n c (omega arith)) ∙ ap (λ (z : List ℕ). n ∷ z) (added_here ns c i up.1 (omega arith) e)

pub removed_here : (ns : List ℕ) (c i : ℕ) → AreRisingNumbers ns → i < length ns → get_or ns i 0 ≡ c → removed ns c ≡ remove ns i
removed_here [] c i up l e = absurd (omega arith)
removed_here (n ∷ ns) c zero up l e = ap (λ (z : Bool). cond z ns (n ∷ removed ns c)) (is_equal n c e)
removed_here (n ∷ ns) c (suc i) up l e =
    let h = greater_at n ns i up.0 (omega arith) in
    ap (λ (z : Bool). cond z ns (n ∷ removed ns c)) (is_unequal n c (λ q. absurd (omega arith))) ∙ ap (λ (z : List ℕ). n ∷ z) (removed_here ns c i up.1 (omega arith) e)

-- ---- the number would stand at a place, and does not

pub added_at : (ns : List ℕ) (c i : ℕ) → i ≤ length ns → ((k : ℕ) → k < i → get_or ns k 0 < c) → ((k : ℕ) → i ≤ k → k < length ns → c < get_or ns k 0) → added ns c ≡ insert ns i c
added_at [] c zero l less more = refl
added_at [] c (suc i) l less more = absurd (omega arith)
added_at (n ∷ ns) c zero l less more =
    let h = more 0 (omega arith) (omega arith) in
    ap (λ (z : Bool). cond z (n ∷ added ns c) (cond (nat_eq n c) (n ∷ ns) (c ∷ n ∷ ns))) (not_less n c (omega arith)) ∙ ap (λ (z : Bool). cond z (n ∷ ns) (c ∷ n ∷ ns)) (is_unequal n c (λ q. absurd (omega arith)))
added_at (n ∷ ns) c (suc i) l less more =
    ap (λ (z : Bool). cond z (n ∷ added ns c) (cond (nat_eq n c) (n ∷ ns) (c ∷ n ∷ ns))) (is_less n c (less 0 (omega arith)))
    ∙ ap (λ (z : List ℕ). n ∷ z) (added_at ns c i (omega arith) (λ k m. less (suc k) (omega arith)) (λ k m o. more (suc k) (omega arith) (omega arith)))

removed_none : (ns : List ℕ) (c i : ℕ) → i ≤ length ns → ((k : ℕ) → k < i → get_or ns k 0 < c) → ((k : ℕ) → i ≤ k → k < length ns → c < get_or ns k 0) → removed ns c ≡ ns
removed_none [] c i l less more = refl
removed_none (n ∷ ns) c zero l less more =
    let h = more 0 (omega arith) (omega arith) in
    ap (λ (z : Bool). cond z ns (n ∷ removed ns c)) (is_unequal n c (λ q. absurd (omega arith))) ∙ ap (λ (z : List ℕ). n ∷ z) (removed_none ns c zero (omega arith) (λ k m. absurd (omega arith)) (λ k m o. more (suc k) (omega arith) (omega arith)))
removed_none (n ∷ ns) c (suc i) l less more =
    let h = less 0 (omega arith) in
    ap (λ (z : Bool). cond z ns (n ∷ removed ns c)) (is_unequal n c (λ q. absurd (omega arith))) ∙ ap (λ (z : List ℕ). n ∷ z) (removed_none ns c i (omega arith) (λ k m. less (suc k) (omega arith)) (λ k m o. more (suc k) (omega arith) (omega arith)))

-- ---- the order stays

more_is : (a b : ℕ) → nat_lt a b ≡ false → nat_eq a b ≡ false → b < a
more_is a b e f = grind (arith, nat_tests)

-- the three places of a number before a set: behind the first, at the first, in front of it
added_cases : (P : List ℕ → Type 0) (n : ℕ) (ns : List ℕ) (c : ℕ) → (n < c → P (n ∷ added ns c)) → (n ≡ c → P (n ∷ ns)) → (c < n → P (c ∷ n ∷ ns)) → P (added (n ∷ ns) c)
added_cases P n ns c behind here front = by_cases (nat_lt n c)
    (λ t. subst (λ (z : Bool). P (cond z (n ∷ added ns c) (cond (nat_eq n c) (n ∷ ns) (c ∷ n ∷ ns)))) (sym t) (behind (less_is n c t)))
    (λ t. subst (λ (z : Bool). P (cond z (n ∷ added ns c) (cond (nat_eq n c) (n ∷ ns) (c ∷ n ∷ ns)))) (sym t) (by_cases (nat_eq n c)
    (λ e. subst (λ (z : Bool). P (cond z (n ∷ ns) (c ∷ n ∷ ns))) (sym e) (here (equal_is n c e)))
    (λ e. subst (λ (z : Bool). P (cond z (n ∷ ns) (c ∷ n ∷ ns))) (sym e) (front (more_is n c t e)))))

pub removed_cases : (P : List ℕ → Type 0) (n : ℕ) (ns : List ℕ) (c : ℕ) → (n ≡ c → P ns) → (n ≢ c → P (n ∷ removed ns c)) → P (removed (n ∷ ns) c)
removed_cases P n ns c here else = by_cases (nat_eq n c)
    (λ t. subst (λ (z : Bool). P (cond z ns (n ∷ removed ns c))) (sym t) (here (equal_is n c t)))
    (λ t. subst (λ (z : Bool). P (cond z ns (n ∷ removed ns c))) (sym t) (else (unequal_is n c t)))

greater_added : (a : ℕ) (ns : List ℕ) (c : ℕ) → a < c → AreGreater a ns → AreGreater a (added ns c)
greater_added a [] c l h = (l, tt {0})
greater_added a (n ∷ ns) c l h = added_cases (AreGreater a) n ns c (λ _. (h.0, greater_added a ns c l h.1)) (λ _. h) (λ _. (l, h))

pub rising_added : (ns : List ℕ) (c : ℕ) → AreRisingNumbers ns → AreRisingNumbers (added ns c)
rising_added [] c up = (tt {0}, tt {0})
rising_added (n ∷ ns) c up = added_cases AreRisingNumbers n ns c (λ l. (greater_added n ns c l up.0, rising_added ns c up.1)) (λ _. up) (λ l. ((l, greater_less n c ns (omega arith) up.0), up))

greater_removed : (a : ℕ) (ns : List ℕ) (c : ℕ) → AreGreater a ns → AreGreater a (removed ns c)
greater_removed a [] c h = h
greater_removed a (n ∷ ns) c h = removed_cases (AreGreater a) n ns c (λ _. h.1) (λ _. (h.0, greater_removed a ns c h.1))

rising_removed : (ns : List ℕ) (c : ℕ) → AreRisingNumbers ns → AreRisingNumbers (removed ns c)
rising_removed [] c up = up
rising_removed (n ∷ ns) c up = removed_cases AreRisingNumbers n ns c (λ _. up.1) (λ _. (greater_removed n ns c up.0, rising_removed ns c up.1))

pub rising_marked : (ns : List ℕ) (c : ℕ) (b : Bool) → AreRisingNumbers ns → AreRisingNumbers (marked ns c b)
rising_marked ns c true up = rising_added ns c up
rising_marked ns c false up = rising_removed ns c up

-- ---- the least number above one

above_from : (ns : List ℕ) (c i : ℕ) → i ≤ length ns → ((k : ℕ) → k < i → get_or ns k 0 ≤ c) → ((k : ℕ) → i ≤ k → k < length ns → c < get_or ns k 0) → slice_get ns i ≡ first_above ns c
above_from [] c i l less more = refl
above_from (n ∷ ns) c zero l less more = sym (ap (λ (z : Bool). cond z (Some n) (first_above ns c)) (is_less c n (more 0 (omega arith) (omega arith))))
above_from (n ∷ ns) c (suc i) l less more =
    above_from ns c i (omega arith) (λ k m. less (suc k) (omega arith)) (λ k m o. more (suc k) (omega arith) (omega arith))
    ∙ sym (ap (λ (z : Bool). cond z (Some n) (first_above ns c)) (not_less c n (less 0 (omega arith))))

-- ---- what a search says

pub added_found : (ns : List ℕ) (c i : ℕ) → AreRisingNumbers ns → IsBinarySearchResult (λ y. nat_cmp y c) ns (Ok i) → added ns c ≡ ns
added_found ns c i up h = let at = searched ns c (Ok i) h (in_order ns up) in added_here ns c i up at.0 at.1

pub removed_found : (ns : List ℕ) (c i : ℕ) → AreRisingNumbers ns → IsBinarySearchResult (λ y. nat_cmp y c) ns (Ok i) → removed ns c ≡ remove ns i
removed_found ns c i up h = let at = searched ns c (Ok i) h (in_order ns up) in removed_here ns c i up at.0 at.1

pub added_missed : (ns : List ℕ) (c i : ℕ) → AreRisingNumbers ns → IsBinarySearchResult (λ y. nat_cmp y c) ns (Err i) → added ns c ≡ insert ns i c
added_missed ns c i up h = let at = searched ns c (Err i) h (in_order ns up) in added_at ns c i at.0 at.1 at.2

pub removed_missed : (ns : List ℕ) (c i : ℕ) → AreRisingNumbers ns → IsBinarySearchResult (λ y. nat_cmp y c) ns (Err i) → removed ns c ≡ ns
removed_missed ns c i up h = let at = searched ns c (Err i) h (in_order ns up) in removed_none ns c i at.0 at.1 at.2

pub above_missed : (ns : List ℕ) (c i : ℕ) → AreRisingNumbers ns → IsBinarySearchResult (λ y. nat_cmp y c) ns (Err i) → slice_get ns i ≡ first_above ns c
above_missed ns c i up h =
    let at = searched ns c (Err i) h (in_order ns up) in
    above_from ns c i at.0 (λ k l. let m = at.1 k l in omega arith) at.2

pub above_found : (ns : List ℕ) (c i : ℕ) → AreRisingNumbers ns → IsBinarySearchResult (λ y. nat_cmp y c) ns (Ok i) → slice_get ns (i + 1) ≡ first_above ns c
above_found ns c i up h =
    let at = searched ns c (Ok i) h (in_order ns up) in let l = at.0 in let e = at.1 in
    above_from ns c (i + 1) (omega arith)
    (λ k m. let o = in_order ns up k i (omega arith) (omega arith) in omega arith)
    (λ k m o. let p = below_in_order ns up i k (omega arith) o in omega arith)

-- a number that was missed is one more
pub more_by_one : (ns : List ℕ) (c i : ℕ) → AreRisingNumbers ns → IsBinarySearchResult (λ y. nat_cmp y c) ns (Err i) → length (added ns c) ≡ length ns + 1
more_by_one ns c i up h = let at = searched ns c (Err i) h (in_order ns up) in ap length (added_missed ns c i up h) ∙ length-insert ns i c at.0
