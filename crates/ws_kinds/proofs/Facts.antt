-- Facts on Booleans and numbers that proofs of many crates use.
use Rattle.std.proofs.Common.{◌≡◌, ◌≢◌, ◌<◌, ◌≤◌, ◌+◌, ℕ, Bool, true, false, not, ◌&&◌, ◌||◌, nat_eq, nat_lt, refl, sym, ◌∙◌, arith}
use Rattle.std.proofs.lemmas.Bool.Decides.{nat_tests}

pub by_cases : {A : Type 0} (b : Bool) → (b ≡ true → A) → (b ≡ false → A) → A
by_cases true f g = f refl
by_cases false f g = g refl

pub clash : {A : Type 0} (b : Bool) → b ≡ false → b ≡ true → A
clash b f t = absurd (let z : true ≡ false = sym t ∙ f in cc)

-- where one test follows from another that fails, it fails
pub stays_false : (p q : Bool) → (q ≡ true → p ≡ true) → p ≡ false → q ≡ false
stays_false p true h e = clash p e (h refl)
stays_false p false h e = refl

pub or_left : (a b : Bool) → (a || b) ≡ false → a ≡ false
or_left true b e = e
or_left false b e = refl

pub or_right : (a b : Bool) → (a || b) ≡ false → b ≡ false
or_right true b e = clash true e refl
or_right false b e = e

pub and_left : (a b : Bool) → (a && b) ≡ true → a ≡ true
and_left true b e = refl
and_left false b e = e

pub and_right : (a b : Bool) → (a && b) ≡ true → b ≡ true
and_right true b e = e
and_right false b e = clash false refl e

pub and_true : (b : Bool) → b ≡ (b && true)
and_true true = refl
and_true false = refl

pub or_false : (b : Bool) → b ≡ (b || false)
or_false true = refl
or_false false = refl

pub or_none : (a b : Bool) → b ≡ false → a ≡ (a || b)
or_none a true e = clash true e refl
or_none a false e = or_false a

pub or_assoc : (a b c : Bool) → (a || (b || c)) ≡ ((a || b) || c)
or_assoc true b c = refl
or_assoc false b c = refl

-- live, and gone by neither
pub stays_live : (l g h : Bool) → ((l && not g) && not h) ≡ (l && not (g || h))
stays_live true true h = refl
stays_live true false h = refl
stays_live false g h = refl

pub same_number : (a : ℕ) → nat_eq a a ≡ true
same_number a = grind (arith, nat_tests)

pub equal_is : (a b : ℕ) → nat_eq a b ≡ true → a ≡ b
equal_is a b e = grind (arith, nat_tests)

pub is_equal : (a b : ℕ) → a ≡ b → nat_eq a b ≡ true
is_equal a b e = grind (arith, nat_tests)

pub is_unequal : (a b : ℕ) → a ≢ b → nat_eq a b ≡ false
is_unequal a b e = grind (arith, nat_tests)

pub other_number : (a b : ℕ) → b ≢ a → nat_eq a b ≡ false
other_number a b e = grind (arith, nat_tests)

pub unequal_is : (a b : ℕ) → nat_eq a b ≡ false → a ≢ b
unequal_is a b e = grind (arith, nat_tests)

pub is_less : (a b : ℕ) → a < b → nat_lt a b ≡ true
is_less a b l = grind (arith, nat_tests)

pub not_less : (a b : ℕ) → b ≤ a → nat_lt a b ≡ false
not_less a b l = grind (arith, nat_tests)

pub less_is : (a b : ℕ) → nat_lt a b ≡ true → a < b
less_is a b e = grind (arith, nat_tests)

pub not_less_is : (a b : ℕ) → nat_lt a b ≡ false → b ≤ a
not_less_is a b e = grind (arith, nat_tests)

pub no_more : (n : ℕ) → n ≡ n + 0
no_more n = omega arith

pub plus_none : (n m : ℕ) → m ≡ 0 → n ≡ n + m
plus_none n m e = omega arith
