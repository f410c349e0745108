-- What stands at the front of octets.
use Rattle.schedule_text.proofs.Below.{◌≡◌, ℕ, suc, ◌+◌, ◌<◌, ◌≤◌, Bool, true, false, not, cond, List, [], ◌∷◌, Some, None, length, take, refl, ◌∙◌, arith, ltb, add_comm, add-one, is_ascii_digit, digit_value, position, position_or_len, MatchResult, IsUtf8, Result, Ok, Err, result_ok, ltb-false, nat_tests, IsAscii-from_digits, IsUtf8-from_ascii, AllDigits, digit_count}

-- digits are text
pub text_is_read : {T E : Type 0} (digits : List ℕ) (r : Result T E) (P : T → Type 0) (Q : E → Type 0) → AllDigits 10 digits → MatchResult r P (λ e. ¬ (IsUtf8 digits) × Q e) → result_ok r ≡ None → ⊥
text_is_read digits (Ok x) P Q all h e = cc
text_is_read digits (Err e) P Q all h k = h.0 (IsUtf8-from_ascii digits (IsAscii-from_digits digits all))

-- the digits at the front
not_not : (b : Bool) → not (not b) ≡ b
not_not true = refl
not_not false = refl

place_is : (octets : List ℕ) → position_or_len (λ octet. not (is_ascii_digit octet)) octets ≡ digit_count octets
place_is [] = refl
place_is (first ∷ rest) = rw (not_not (is_ascii_digit first), place_is rest) refl

pub count_le : (octets : List ℕ) → digit_count octets ≤ length octets
count_le [] = omega arith
count_le (first ∷ rest) = elim (is_ascii_digit first) as (λ b. cond b (1 + digit_count rest) 0 ≤ suc (length rest)) [ true ↦ omega (arith, count_le rest) | false ↦ omega arith ]

found : (b : Bool) (x y : ℕ) → cond b (Some x) None ≡ Some y → y ≡ x
found true x y e = cc
found false x y e = absurd cc

not_found : (b : Bool) (x : ℕ) → cond b (Some x) None ≡ None → b ≡ false
not_found true x e = absurd cc
not_found false x e = refl

pub count_at_place : (octets : List ℕ) (place : ℕ) → position (λ octet. not (is_ascii_digit octet)) octets ≡ Some place → place ≡ digit_count octets
count_at_place octets place e = found (ltb (position_or_len (λ octet. not (is_ascii_digit octet)) octets) (length octets)) (position_or_len (λ octet. not (is_ascii_digit octet)) octets) place e ∙ place_is octets

pub count_at_end : (octets : List ℕ) → position (λ octet. not (is_ascii_digit octet)) octets ≡ None → length octets ≡ digit_count octets
count_at_end octets e =
    let past = not_found (ltb (position_or_len (λ octet. not (is_ascii_digit octet)) octets) (length octets)) (position_or_len (λ octet. not (is_ascii_digit octet)) octets) e in
    omega (arith, ltb-false _ _ past, place_is octets, count_le octets)

digits_from : (b : Bool) (first : ℕ) (rest : List ℕ) → (b ≡ true → digit_value first < 10) → AllDigits 10 (take (digit_count rest) rest) → AllDigits 10 (take (cond b (1 + digit_count rest) 0) (first ∷ rest))
digits_from true first rest h k = rw (add_comm 1 (digit_count rest), add-one) (h refl, k)
digits_from false first rest h k = tt

digit_is : (octet : ℕ) → is_ascii_digit octet ≡ true → digit_value octet < 10
digit_is octet h = grind (arith, nat_tests)

pub front_digits : (octets : List ℕ) → AllDigits 10 (take (digit_count octets) octets)
front_digits [] = tt
front_digits (first ∷ rest) = digits_from (is_ascii_digit first) first rest (digit_is first) (front_digits rest)
