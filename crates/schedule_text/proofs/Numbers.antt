-- Numbers at the front of octets: what is read is written so, and what is written so is read.
use Rattle.schedule_text.proofs.Below.{◌≡◌, ℕ, suc, zero, ◌+◌, ◌^◌, ◌<◌, Bool, true, false, not, cond, eqb, ltb, List, [], ◌∷◌, ◌++◌, Option, Some, None, length, get_or, take, drop, decimal, refl, sym, ap, subst, ◌∙◌, arith, is_ascii_digit, digit_value, AllDigits, digits_value, IsNumeralModel, numerals_by_value, tells_digits, digit_from_value, decimal-digits_value, digits_decimal, digits_value-decimal, decimal_nonempty, first_decimal, decimal_digit, take-append-drop, take_at, drop_at, ltb-true, lt-ltb, eqb-true, nat_tests, ◌>>=◌, octet_at, digit_count, has_no_leading_zero, value_of, number_of, number_at}
use Rattle.schedule_text.proofs.Fronts.{front_digits}

pub own : IsNumeralModel (AllDigits 10) (digits_value 10)
own = numerals_by_value (AllDigits 10) tells_digits

-- ---- steps

pub bind_some : {A B : Type 0} (o : Option A) (f : A → Option B) (y : B) → (o >>= f) ≡ Some y → (x : A) × (o ≡ Some x) × (f x ≡ Some y)
bind_some (Some x) f y e = (x, refl, e)
bind_some None f y e = absurd cc

pub chosen_some : {A : Type 0} (b : Bool) (x y : A) → cond b (Some x) None ≡ Some y → (b ≡ true) × (x ≡ y)
chosen_some true x y e = (refl, cc)
chosen_some false x y e = absurd cc

pub chosen_other : {A : Type 0} (b : Bool) (x y : A) → cond b None (Some x) ≡ Some y → (b ≡ false) × (x ≡ y)
chosen_other true x y e = absurd cc
chosen_other false x y e = (refl, cc)

pub some_is : {A : Type 0} (x y : A) → Some x ≡ Some y → x ≡ y
some_is x y e = cc

pub octet_takes : (octet : ℕ) (octets : List ℕ) (x : Unit {0} × List ℕ) → octet_at octet octets ≡ Some x → octets ≡ octet ∷ x.1
octet_takes octet [] x e = absurd cc
octet_takes octet (first ∷ rest) x e =
    let h = chosen_some (eqb first octet) (tt, rest) x e in
    let same : first ≡ octet = eqb-true first octet h.0 in
    ap (λ (v : ℕ). v ∷ rest) same ∙ ap (λ (p : Unit {0} × List ℕ). octet ∷ p.1) h.1

-- ---- numbers

zero_first : (first : ℕ) → not (eqb first 48) ≡ true → first ≡ 48 → ⊥
zero_first first h e = grind (arith, nat_tests)

wider : (n : ℕ) → n < 2 ^ 32 → n < 2 ^ 64
wider n h = omega arith

value_chosen : (b : Bool) (o : Option ℕ) (y : ℕ) → cond b o None ≡ Some y → (b ≡ true) × (o ≡ Some y)
value_chosen true o y e = (refl, e)
value_chosen false o y e = absurd cc

no_leading_zero : (digits : List ℕ) → has_no_leading_zero digits ≡ true → (0 < length digits) × (get_or digits 0 0 ≡ 48 → length digits ≡ 1)
no_leading_zero [] h = absurd cc
no_leading_zero (first ∷ []) h = (omega arith, λ _. refl)
no_leading_zero (first ∷ second ∷ rest) h = (omega arith, λ e. absurd (zero_first first h e))

number_of_takes : (digits : List ℕ) (number : ℕ) → AllDigits 10 digits → number_of digits ≡ Some number → (digits ≡ decimal number) × (number < 2 ^ 32)
number_of_takes digits number all e =
    let a = value_chosen (has_no_leading_zero digits) (value_of digits) number e in
    let b = chosen_some (ltb (digits_value 10 digits) (2 ^ 32)) (digits_value 10 digits) number a.1 in
    let shape = no_leading_zero digits a.0 in
    let below : digits_value 10 digits < 2 ^ 32 = ltb-true _ _ b.0 in
    (sym (decimal-digits_value own digits all shape.0 shape.1 (wider _ below)) ∙ ap decimal b.1, subst (λ (n : ℕ). n < 2 ^ 32) b.1 below)

pub number_takes : (octets : List ℕ) (x : ℕ × List ℕ) → number_at octets ≡ Some x → (octets ≡ decimal x.0 ++ x.1) × (x.0 < 2 ^ 32)
unfolding number_at
number_takes octets x e =
    let b = bind_some (number_of (take (digit_count octets) octets)) (λ number. Some (number, drop (digit_count octets) octets)) x e in
    let n = number_of_takes (take (digit_count octets) octets) b.0 (front_digits octets) b.1 in
    let made : (b.0, drop (digit_count octets) octets) ≡ x = some_is _ _ b.2 in
    (sym (take-append-drop (digit_count octets) octets) ∙ ap (λ (v : List ℕ). v ++ drop (digit_count octets) octets) n.0 ∙ ap (λ (p : ℕ × List ℕ). decimal p.0 ++ p.1) made, subst (λ (p : ℕ × List ℕ). p.0 < 2 ^ 32) made n.1)

-- a digit stands at the front
abbrev pub starts_number : List ℕ → Bool
starts_number [] = false
starts_number (first ∷ rest) = is_ascii_digit first

-- what may follow a number: no further digit
abbrev pub ends_number : List ℕ → Bool
ends_number [] = true
ends_number (first ∷ rest) = not (is_ascii_digit first)

digit_passes : (octet : ℕ) → digit_value octet < 10 → is_ascii_digit octet ≡ true
digit_passes octet h = let r = digit_from_value octet h in grind (arith, nat_tests)

digits_start : (digits rest : List ℕ) → AllDigits 10 digits → 0 < length digits → starts_number (digits ++ rest) ≡ true
digits_start [] rest all some = absurd (omega arith)
digits_start (digit ∷ digits) rest all some = digit_passes digit all.0

pub number_starts : (number : ℕ) (rest : List ℕ) → number < 2 ^ 32 → starts_number (decimal number ++ rest) ≡ true
number_starts number rest h = digits_start (decimal number) rest (digits_decimal own number (wider number h)) (decimal_nonempty number (wider number h))

first_counts : (b : Bool) (n : ℕ) → not b ≡ true → cond b (1 + n) 0 ≡ 0
first_counts true n h = absurd cc
first_counts false n h = refl

counts_none : (rest : List ℕ) → ends_number rest ≡ true → digit_count rest ≡ 0
counts_none [] h = refl
counts_none (first ∷ rest) h = first_counts (is_ascii_digit first) (digit_count rest) h

counts : (digits rest : List ℕ) → AllDigits 10 digits → ends_number rest ≡ true → digit_count (digits ++ rest) ≡ length digits
counts [] rest all ends = counts_none rest ends
counts (digit ∷ digits) rest all ends = rw (digit_passes digit all.0, counts digits rest all.1 ends) (omega arith)

first_is_no_zero : (digits : List ℕ) → 0 < length digits → 48 < get_or digits 0 0 → has_no_leading_zero digits ≡ true
first_is_no_zero [] some h = absurd (omega arith)
first_is_no_zero (first ∷ []) some h = refl
first_is_no_zero (first ∷ second ∷ rest) some h = grind (arith, nat_tests)

has_no_zero : (number : ℕ) → number < 2 ^ 64 → has_no_leading_zero (decimal number) ≡ true
has_no_zero zero h = ap has_no_leading_zero (decimal_digit 0 (omega arith))
has_no_zero (suc number) h = first_is_no_zero (decimal (suc number)) (decimal_nonempty (suc number) h) (first_decimal (suc number) (omega arith) h)

number_of_again : (number : ℕ) → number < 2 ^ 32 → number_of (decimal number) ≡ Some number
number_of_again number h =
    let value : digits_value 10 (decimal number) ≡ number = digits_value-decimal own number (wider number h) in
    let below : ltb number (2 ^ 32) ≡ true = lt-ltb _ _ h in
    rw (has_no_zero number (wider number h), value, below) refl

pub number_again : (number : ℕ) (rest : List ℕ) → number < 2 ^ 32 → ends_number rest ≡ true → number_at (decimal number ++ rest) ≡ Some (number, rest)
unfolding number_at
number_again number rest h ends =
    let count : digit_count (decimal number ++ rest) ≡ length (decimal number) = counts (decimal number) rest (digits_decimal own number (wider number h)) ends in
    rw (count, take_at (decimal number) rest (length (decimal number)) refl, drop_at (decimal number) rest (length (decimal number)) refl, number_of_again number h) refl
