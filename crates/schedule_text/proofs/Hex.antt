-- Hexadecimal digits at the front of octets: what is read is written so, and what is written so is read.
use Rattle.schedule_text.proofs.Below.{◌≡◌, ℕ, ◌+◌, ◌*◌, ◌/◌, ◌%◌, ◌<◌, List, [], ◌∷◌, ◌++◌, Option, Some, None, refl, ap, ◌∙◌, arith, AllByRecursion, nat_tests, hex, hex_digit, ◌>>=◌, hex_value, pair_value, pairs_at, pairs_with}
use Rattle.schedule_text.proofs.Numbers.{bind_some, some_is}

value_takes : (digit value : ℕ) → hex_value digit ≡ Some value → (digit ≡ hex_digit value) × (value < 16)
value_takes digit value e = (grind (arith, nat_tests), grind (arith, nat_tests))

value_again : (value : ℕ) → value < 16 → hex_value (hex_digit value) ≡ Some value
value_again value h = grind (arith, nat_tests)

pair_takes : (high low octet : ℕ) → pair_value high low ≡ Some octet → (high ≡ hex_digit (octet / 16)) × (low ≡ hex_digit (octet % 16)) × (octet < 256)
pair_takes high low octet e =
    let a = bind_some (hex_value high) (λ h. hex_value low >>= λ l. Some (16 * h + l)) octet e in
    let b = bind_some (hex_value low) (λ l. Some (16 * a.0 + l)) octet a.2 in
    let first = value_takes high a.0 a.1 in
    let second = value_takes low b.0 b.1 in
    let sum : 16 * a.0 + b.0 ≡ octet = some_is _ _ b.2 in
    let h : a.0 ≡ octet / 16 = omega (arith, sum, first.1, second.1) in
    let l : b.0 ≡ octet % 16 = omega (arith, sum, first.1, second.1) in
    (first.0 ∙ ap hex_digit h, second.0 ∙ ap hex_digit l, omega (arith, sum, first.1, second.1))

pub pair_again : (octet : ℕ) → octet < 256 → pair_value (hex_digit (octet / 16)) (hex_digit (octet % 16)) ≡ Some octet
pair_again octet h =
    let high : octet / 16 < 16 = omega arith in
    let low : octet % 16 < 16 = omega arith in
    let sum : 16 * (octet / 16) + octet % 16 ≡ octet = omega arith in
    rw (value_again (octet / 16) high, value_again (octet % 16) low, sum) refl

-- what was taken, and what follows it
pub record IsPairs (octets : List ℕ) (front : List ℕ × List ℕ) : Type 0 where
  pub text : octets ≡ hex front.0 ++ front.1
  pub below : AllByRecursion (λ octet. octet < 256) front.0

pair_then : (high low : ℕ) (rest : List ℕ) (o : Option ℕ) → pair_value high low ≡ o → IsPairs rest (pairs_at rest) → IsPairs (high ∷ low ∷ rest) (pairs_with o (high ∷ low ∷ rest) (pairs_at rest))
pair_then high low rest None e later = record { text = refl; below = tt }
pair_then high low rest (Some octet) e later =
    let pair = pair_takes high low octet e in
    record {
      text = ap (λ (v : ℕ). v ∷ low ∷ rest) pair.0 ∙ ap (λ (v : ℕ). hex_digit (octet / 16) ∷ v ∷ rest) pair.1 ∙ ap (λ (v : List ℕ). hex_digit (octet / 16) ∷ hex_digit (octet % 16) ∷ v) later.text;
      below = (pair.2, later.below);
    }

pub pairs_take : (octets : List ℕ) → IsPairs octets (pairs_at octets)
pairs_take [] = record { text = refl; below = tt }
pairs_take (first ∷ []) = record { text = refl; below = tt }
pairs_take (high ∷ low ∷ rest) = pair_then high low rest (pair_value high low) refl (pairs_take rest)

pub pairs_again : (octets rest : List ℕ) → AllByRecursion (λ octet. octet < 256) octets → pairs_at (hex octets ++ 10 ∷ rest) ≡ (octets, 10 ∷ rest)
pairs_again [] [] h = refl
pairs_again [] (first ∷ rest) h = refl
pairs_again (octet ∷ octets) rest h = rw (pair_again octet h.0, pairs_again octets rest h.1) refl
