-- Sets of numbers, as lists in rising order.
use Rattle.std.specs.Prelude.{◌<◌, ⊤, ℕ, List, [], ◌∷◌, Option, Some, None, Bool, true, false, nat_eq, nat_lt, if◌then◌else◌}

-- what contracts see of a set
pub record NumberSetState : Type 0 where
  -- its numbers, in rising order
  pub numbers : List ℕ
  -- how many numbers it has memory for
  pub room : ℕ

-- each of the numbers is greater than this one
abbrev pub AreGreater : ℕ → List ℕ → Type 0
AreGreater number [] = ⊤
AreGreater number (first ∷ rest) = (number < first) × AreGreater number rest

-- the numbers rise, each stands once
abbrev pub AreRisingNumbers : List ℕ → Type 0
AreRisingNumbers [] = ⊤
AreRisingNumbers (first ∷ rest) = AreGreater first rest × AreRisingNumbers rest

-- the set with this number
abbrev pub added : List ℕ → ℕ → List ℕ
added [] number = number ∷ []
added (first ∷ rest) number = if nat_lt first number then first ∷ added rest number else if nat_eq first number then first ∷ rest else number ∷ first ∷ rest

-- the set without this number
abbrev pub removed : List ℕ → ℕ → List ℕ
removed [] number = []
removed (first ∷ rest) number = if nat_eq first number then rest else first ∷ removed rest number

-- the set with or without this number
abbrev pub marked : List ℕ → ℕ → Bool → List ℕ
marked numbers number true = added numbers number
marked numbers number false = removed numbers number

-- the least number
abbrev pub first_of : List ℕ → Option ℕ
first_of [] = None
first_of (first ∷ rest) = Some first

-- the least number above this one
abbrev pub first_above : List ℕ → ℕ → Option ℕ
first_above [] number = None
first_above (first ∷ rest) number = if nat_lt number first then Some first else first_above rest number
