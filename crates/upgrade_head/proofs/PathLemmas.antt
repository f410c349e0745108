-- The path of a target, and its route.
use Rattle.upgrade_head.proofs.Below.{◌≡◌, ℕ, ◌≤◌, Bool, List, Some, None, nat_lt, length, take, position, if◌then◌else◌, arith, sym, ap, position_or_len, before_first, nat_tests, take_all}

placed : (n size place : ℕ) → (if nat_lt n size then Some n else None) ≡ Some place → n ≡ place
placed n size place is = grind (arith, nat_tests)

nowhere : (n size : ℕ) → (if nat_lt n size then Some n else None) ≡ None → size ≤ n
nowhere n size is = grind (arith, nat_tests)

module _ (test : ℕ → Bool) (octets : List ℕ) where
  pub before-Some : (place : ℕ) → position test octets ≡ Some place → take place octets ≡ before_first test octets
  before-Some place is = ap (λ n. take n octets) (sym (placed (position_or_len test octets) (length octets) place is))

  pub before-None : position test octets ≡ None → octets ≡ before_first test octets
  before-None is = sym (take_all (position_or_len test octets) octets (nowhere (position_or_len test octets) (length octets) is))
