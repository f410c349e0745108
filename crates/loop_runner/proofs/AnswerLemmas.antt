-- How the list of the net's answers grows.
use Rattle.loop_runner.proofs.Below.{◌≡◌, ◌≢◌, ◌≤◌, ◌<◌, ◌+◌, ◌-◌, ◌^◌, ℕ, zero, suc, min, take, drop, List, [], ◌∷◌, ◌++◌, length, Bool, true, false, cond, nat_lt, refl, sym, ap, ◌∙◌, subst, arith, append-nil, append_assoc, length-append, take_all, length-take, take-append-drop, nat_tests, passing, passed_after, NetEvent, by_cases, GrowsBy}
use Rattle.link_trait.specs.declared.net.NetEvent.TheVariants as event

-- what is taken of two lists, one after the other
take_both : (n : ℕ) (xs ys : List NetEvent) → take n (xs ++ ys) ≡ take n xs ++ take (n - length xs) ys
take_both zero xs ys = let e : 0 - length xs ≡ 0 = omega arith in sym (ap (λ (z : ℕ). take z ys) e)
take_both (suc n) [] ys = let e : suc n - 0 ≡ suc n = omega arith in sym (ap (λ (z : ℕ). take z ys) e)
take_both (suc n) (x ∷ xs) ys =
    let e : suc n - suc (length xs) ≡ n - length xs = omega arith in
    ap (λ (z : List NetEvent). x ∷ z) (take_both n xs ys ∙ ap (λ (z : ℕ). take n xs ++ take z ys) (sym e))

-- nothing came
pub grows_none : (xs : List NetEvent) → GrowsBy [] xs xs
grows_none xs = sym (ap (λ (z : List NetEvent). xs ++ z) (take_all (2 ^ 64 - 1 - length xs) [] (omega arith)) ∙ append-nil xs)

-- some came, and then more
pub grows_then : (xs ys a b d : List NetEvent) → GrowsBy xs a b → GrowsBy ys b d → GrowsBy (xs ++ ys) a d
grows_then xs ys a b d x y =
    let room = 2 ^ 64 - 1 - length a in
    let long : length b ≡ length a + min room (length xs) = ap length x ∙ length-append a (take room xs) ∙ ap (λ (z : ℕ). length a + z) (length-take room xs) in
    y ∙ ap (λ (z : List NetEvent). z ++ take (2 ^ 64 - 1 - length b) ys) x ∙ append_assoc a (take room xs) (take (2 ^ 64 - 1 - length b) ys)
    ∙ ap (λ (z : ℕ). a ++ (take room xs ++ take z ys)) (room_left (2 ^ 64 - 1) (length a) (length b) (length xs) long) ∙ ap (λ (z : List NetEvent). a ++ z) (sym (take_both room xs ys))
  where
    room_left : (m a b n : ℕ) → b ≡ a + min (m - a) n → m - b ≡ m - a - n
    room_left m a b n e = omega (arith, e)

-- where it is not full, it has room for all
pub grows_whole : (xs a b : List NetEvent) → GrowsBy xs a b → length b < 2 ^ 64 - 1 → b ≡ a ++ xs
grows_whole xs a b x few =
    let room = 2 ^ 64 - 1 - length a in
    let long : length b ≡ length a + min room (length xs) = ap length x ∙ length-append a (take room xs) ∙ ap (λ (z : ℕ). length a + z) (length-take room xs) in
    x ∙ ap (λ (z : List NetEvent). a ++ z) (take_all room xs (fits (2 ^ 64 - 1) (length a) (length b) (length xs) long few))
  where
    fits : (m a b n : ℕ) → b ≡ a + min (m - a) n → b < m → n ≤ m - a
    fits m a b n e few = omega (arith, e, few)

-- some came, then more, and then the last
pub grows_last : (xs ys last a b d : List NetEvent) → GrowsBy xs a b → GrowsBy (ys ++ last) b d → GrowsBy ((xs ++ ys) ++ last) a d
grows_last xs ys last a b d x y = subst (λ (z : List NetEvent). GrowsBy z a d) (sym (append_assoc xs ys last)) (grows_then xs (ys ++ last) a b d x y)

short : (answer : NetEvent) → length (passing answer) ≤ 1
short (event.Accept c) = omega arith
short (event.Readable c) = omega arith
short (event.Writable c) = omega arith
short event.Tick = omega arith
short event.Turn = omega arith
short event.Stop = omega arith
short event.Failed = omega arith

-- one answer
grows_one : (passed : List NetEvent) (answer : NetEvent) → GrowsBy (passing answer) passed (passed_after passed answer)
grows_one passed answer = by_cases (nat_lt (length passed) (2 ^ 64 - 1))
    (λ e.
    ap (λ (z : Bool). cond z (passed ++ passing answer) passed) e
    ∙ ap (λ (z : List NetEvent). passed ++ z) (sym (take_all (2 ^ 64 - 1 - length passed) (passing answer) (fits (2 ^ 64 - 1) (length passed) (length (passing answer)) e (short answer)))))
    (λ e.
    ap (λ (z : Bool). cond z (passed ++ passing answer) passed) e
    ∙ sym (ap (λ (z : ℕ). passed ++ take z (passing answer)) (none (2 ^ 64 - 1) (length passed) e) ∙ append-nil passed))
  where
    fits : (m n k : ℕ) → nat_lt n m ≡ true → k ≤ 1 → k ≤ m - n
    fits m n k e one = let less : n < m = grind (arith, nat_tests) in omega (arith, less, one)

    none : (m n : ℕ) → nat_lt n m ≡ false → m - n ≡ 0
    none m n e = let most : m ≤ n = grind (arith, nat_tests) in omega (arith, most)

pub grows_next : (passed : List NetEvent) (answer : NetEvent) (xs now : List NetEvent) → passing answer ≡ xs → now ≡ passed_after passed answer → GrowsBy xs passed now
grows_next passed answer xs now is after =
    subst (λ (z : List NetEvent). GrowsBy z passed now) is (subst (λ (z : List NetEvent). GrowsBy (passing answer) passed z) (sym after) (grows_one passed answer))
