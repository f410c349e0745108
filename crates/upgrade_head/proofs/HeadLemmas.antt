-- Where a head ends.
use Rattle.upgrade_head.proofs.Below.{◌≡◌, ℕ, zero, suc, ◌+◌, ◌<◌, ◌≤◌, Bool, true, false, List, [], ◌∷◌, Some, None, length, take, get_or, refl, sym, ap, ◌∙◌, arith, ⊎_elim, inl, inr, ◌⊎◌, length-take, ◌++◌, nat_lt, ◌-◌, bytes_eq, take-append-le, take_all, nat_tests, take-append-add, cases_Bool, bytes_eq-Decides, OccursAt, FindsNeedle, empty_line, end_behind, head_end}
use Rattle.memchr.proofs.lemmas.MatchLemmas.{OccursAt-part, OccursAt-from_part}

some_injective : {a b : ℕ} → Some a ≡ Some b → a ≡ b
some_injective {a} {b} is = cc

none_some : {a : ℕ} → None ≡ Some a → ⊥
none_some is = cc

at_front : (octets : List ℕ) → OccursAt octets empty_line 0 → bytes_eq (take 4 octets) empty_line ≡ true
at_front octets there = (bytes_eq-Decides (take 4 octets) empty_line).1 (OccursAt-part octets empty_line 0 there)

from_front : (octets : List ℕ) → bytes_eq (take 4 octets) empty_line ≡ true → OccursAt octets empty_line 0
from_front octets is =
    let same = (bytes_eq-Decides (take 4 octets) empty_line).0 is in
    OccursAt-from_part octets empty_line 0 (omega (arith, length-take 4 octets, ap length same)) same

not_front : (octets : List ℕ) → ¬ (OccursAt octets empty_line 0) → bytes_eq (take 4 octets) empty_line ≡ false
not_front octets absent = ⊎_elim (λ t. absurd (absent (from_front octets t))) (λ f. f) (cases_Bool (bytes_eq (take 4 octets) empty_line))

module _ (before octet : ℕ) (rest : List ℕ) where
  passed : bytes_eq (take 4 (octet ∷ rest)) empty_line ≡ false → end_behind before (octet ∷ rest) ≡ end_behind (before + 1) rest
  passed h = rw h

  found : bytes_eq (take 4 (octet ∷ rest)) empty_line ≡ true → end_behind before (octet ∷ rest) ≡ Some (before + 4)
  found h = rw h

later : (octet place : ℕ) (rest : List ℕ) → OccursAt rest empty_line place → OccursAt (octet ∷ rest) empty_line (suc place)
later octet place rest there = record {
  fits = omega (arith, there.fits);
  reads = λ j l. let e : suc place + j ≡ suc (place + j) = omega arith in ap (λ k. get_or (octet ∷ rest) k 0) e ∙ there.reads j l;
}

earlier : (octet place : ℕ) (rest : List ℕ) → OccursAt (octet ∷ rest) empty_line (suc place) → OccursAt rest empty_line place
earlier octet place rest there = record {
  fits = omega (arith, there.fits);
  reads = λ j l. let e : suc (place + j) ≡ suc place + j = omega arith in ap (λ k. get_or (octet ∷ rest) k 0) e ∙ there.reads j l;
}

no_end : (before : ℕ) (octets : List ℕ) → ((k : ℕ) → ¬ (OccursAt octets empty_line k)) → end_behind before octets ≡ None
no_end before [] absent = refl
no_end before (octet ∷ rest) absent =
    passed before octet rest (not_front (octet ∷ rest) (absent 0)) ∙ no_end (before + 1) rest (λ k there. absent (suc k) (later octet k rest there))

first_end : (before place : ℕ) (octets : List ℕ) → ((k : ℕ) → k < place → ¬ (OccursAt octets empty_line k)) → OccursAt octets empty_line place
    → end_behind before octets ≡ Some (before + place + 4)
first_end before place [] none there = absurd (omega (arith, there.fits))
first_end before zero (octet ∷ rest) none there =
    let e : before + 4 ≡ before + zero + 4 = omega arith in
    found before octet rest (at_front (octet ∷ rest) there) ∙ ap Some e
first_end before (suc place) (octet ∷ rest) none there =
    let e : before + 1 + place + 4 ≡ before + suc place + 4 = omega arith in
    passed before octet rest (not_front (octet ∷ rest) (none 0 (omega arith)))
    ∙ first_end (before + 1) place rest (λ k lt h. none (suc k) (omega arith) (later octet k rest h)) (earlier octet place rest there)
    ∙ ap Some e

-- no place is found: there is no end
pub end-None : (octets : List ℕ) → FindsNeedle octets empty_line 0 None → end_behind 0 octets ≡ None
end-None octets nowhere = no_end 0 octets (λ k there. nowhere k (omega arith) (omega (arith, there.fits)) there)

-- the place that is found: the end is four octets behind it
pub end-Some : (octets : List ℕ) (place : ℕ) → FindsNeedle octets empty_line 0 (Some place) → end_behind 0 octets ≡ Some (place + 4)
end-Some octets place first =
    let e : 0 + place + 4 ≡ place + 4 = omega arith in
    first_end 0 place octets (λ k lt. first.0.before k (omega arith) lt) first.1 ∙ ap Some e

-- the mark is whole
whole_mark : (octets : List ℕ) → bytes_eq (take 4 octets) empty_line ≡ true → 4 ≤ length octets
whole_mark octets is = let there = from_front octets is in omega (arith, there.fits)

module _ (before : ℕ) (end : ℕ) where
  some_end : (octet : ℕ) (rest : List ℕ) (test : Bool) → bytes_eq (take 4 (octet ∷ rest)) empty_line ≡ test
      → end_behind before (octet ∷ rest) ≡ Some end
      → ((bytes_eq (take 4 (octet ∷ rest)) empty_line ≡ true) × (end ≡ before + 4))
      ⊎ ((bytes_eq (take 4 (octet ∷ rest)) empty_line ≡ false) × (end_behind (before + 1) rest ≡ Some end))
  some_end octet rest true is found_end = inl (is, some_injective (sym found_end ∙ found before octet rest is))
  some_end octet rest false is found_end = inr (is, sym (passed before octet rest is) ∙ found_end)

-- where there is an end, at least four octets stand before it, and it is within the octets
end_within : (before end : ℕ) (octets : List ℕ) → end_behind before octets ≡ Some end → (4 ≤ length octets) × (end ≤ before + length octets)
end_within before end [] found_end = absurd (none_some found_end)
end_within before end (octet ∷ rest) found_end =
    elim (some_end before end octet rest (bytes_eq (take 4 (octet ∷ rest)) empty_line) refl found_end) [
      | inl here ↦ let size = whole_mark (octet ∷ rest) here.0 in (size, omega (arith, size, here.1))
      | inr behind ↦ let later = end_within (before + 1) end rest behind.1 in (omega (arith, later.0), omega (arith, later.1))
    ]

-- the mark at the front is that of a front
same_front : (xs ys : List ℕ) → 4 ≤ length xs → bytes_eq (take 4 (xs ++ ys)) empty_line ≡ bytes_eq (take 4 xs) empty_line
same_front xs ys size = ap (λ (part : List ℕ). bytes_eq part empty_line) (take-append-le 4 xs ys size)

-- an end stays, whatever follows
end_stays : (before end : ℕ) (octets behind : List ℕ) → end_behind before octets ≡ Some end → end_behind before (octets ++ behind) ≡ Some end
end_stays before end [] behind found_end = absurd (none_some found_end)
end_stays before end (octet ∷ rest) behind found_end =
    let size = (end_within before end (octet ∷ rest) found_end).0 in
    let same = same_front (octet ∷ rest) behind size in
    elim (some_end before end octet rest (bytes_eq (take 4 (octet ∷ rest)) empty_line) refl found_end) [
      | inl here ↦ found before octet (rest ++ behind) (same ∙ here.0) ∙ ap Some (sym here.1)
      | inr later ↦ passed before octet (rest ++ behind) (same ∙ later.0) ∙ end_stays (before + 1) end rest behind later.1
    ]

-- so does one within the first n octets
bounded_stays : (end n : ℕ) (octets behind : List ℕ) (test : Bool) → nat_lt (length octets) n ≡ test → end_behind 0 (take n octets) ≡ Some end → end_behind 0 (take n (octets ++ behind)) ≡ Some end
bounded_stays end n octets behind true is found_end =
    let m = n - length octets in
    let size : n ≡ length octets + m = grind (arith, nat_tests) in
    let front : take n (octets ++ behind) ≡ octets ++ take m behind = ap (λ (k : ℕ). take k (octets ++ behind)) size ∙ take-append-add octets behind m in
    let all : take n octets ≡ octets = take_all n octets (omega arith) in
    ap (end_behind 0) front ∙ end_stays 0 end octets (take m behind) (ap (end_behind 0) (sym all) ∙ found_end)
bounded_stays end n octets behind false is found_end =
    let size : n ≤ length octets = grind (arith, nat_tests) in
    ap (end_behind 0) (take-append-le n octets behind size) ∙ found_end

pub head_end-stays : (octets behind : List ℕ) (end : ℕ) → head_end octets ≡ Some end → head_end (octets ++ behind) ≡ Some end
head_end-stays octets behind end found_end = bounded_stays end 8192 octets behind (nat_lt (length octets) 8192) refl found_end

pub head_end-within : (octets : List ℕ) (end : ℕ) → head_end octets ≡ Some end → end ≤ length octets
head_end-within octets end found_end = omega (arith, (end_within 0 end (take 8192 octets) found_end).1, length-take 8192 octets)

-- no head ends in further octets where 8,192 came without an end
pub head_end-full : (octets behind : List ℕ) → 8192 ≤ length octets → head_end (octets ++ behind) ≡ head_end octets
head_end-full octets behind size = ap (end_behind 0) (take-append-le 8192 octets behind size)
