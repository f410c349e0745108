-- One octet further in a value.
use Rattle.upgrade_head.proofs.Below.{◌≡◌, ℕ, Bool, ◌+◌, ◌-◌, ◌<◌, ◌≤◌, false, List, [], ◌∷◌, ◌++◌, length, get_or, drop, slice_range, refl, arith, get_or-drop, length-drop, ◌==◌, list_any, drop_more, take_more, slice_empty, parts_after}

slice_more : (xs : List ℕ) (start end : ℕ) → start ≤ end → end < length xs → slice_range xs start end ++ get_or xs end 0 ∷ [] ≡ slice_range xs start (end + 1)
slice_more xs start end le lt =
    let n = end - start in
    let len : end + 1 - start ≡ n + 1 = omega arith in
    let place : start + n ≡ end = omega arith in
    let inside : n < length (drop start xs) = omega (arith, length-drop start xs) in
    rw (len, take_more (drop start xs) n 0 inside, get_or-drop, place)

at_comma : (test : List ℕ → Bool) (part rest : List ℕ) (octet : ℕ) → octet ≡ 44 → test part ≡ false
    → list_any test (parts_after part (octet ∷ rest)) ≡ list_any test (parts_after [] rest)
at_comma test part rest octet is other = rw (is, other)

at_other : (part rest : List ℕ) (octet : ℕ) → octet == 44 ≡ false → parts_after part (octet ∷ rest) ≡ parts_after (part ++ octet ∷ []) rest
at_other part rest octet other = rw other

module _ (test : List ℕ → Bool) (xs : List ℕ) (start i : ℕ) where
  -- behind a comma a new part begins
  pub after_comma : i < length xs → get_or xs i 0 ≡ 44 → test (slice_range xs start i) ≡ false
      → list_any test (parts_after (slice_range xs start i) (drop i xs)) ≡ list_any test (parts_after (slice_range xs (i + 1) (i + 1)) (drop (i + 1) xs))
  after_comma lt comma other =
      rw (drop_more xs i 0 lt, at_comma test (slice_range xs start i) (drop (i + 1) xs) (get_or xs i 0) comma other, slice_empty xs (i + 1) (i + 1) refl (omega arith))

  -- any other octet is the next of its part
  pub after_other : start ≤ i → i < length xs → get_or xs i 0 == 44 ≡ false
      → parts_after (slice_range xs start i) (drop i xs) ≡ parts_after (slice_range xs start (i + 1)) (drop (i + 1) xs)
  after_other le lt other =
      rw (drop_more xs i 0 lt, at_other (slice_range xs start i) (drop (i + 1) xs) (get_or xs i 0) other, slice_more xs start i le lt)
