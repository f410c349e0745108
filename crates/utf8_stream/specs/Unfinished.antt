-- A character whose last octets have not come, RFC 3629 section 4.
use Rattle.std.specs.Prelude.{◌≡◌, ℕ, ◌<◌, ◌≤◌, true, List, length, take, drop, Option, None, Some, option_map, IsUtf8}
use Rattle.arrayvec.specs.ArrayVec.{ArrayVec}
use Rattle.wire_meaning.specs.Text.{is_text_front}

-- The octets begin one character and end within it, or there are none: some continuation is UTF-8, and no front of
-- them but the empty one.
pub record IsUnfinished (octets : List ℕ) : Type 0 where
  pub few : length octets ≤ 3
  pub begun : is_text_front octets ≡ true
  pub open_ended : (count : ℕ) → 0 < count → count ≤ length octets → ¬ (IsUtf8 (take count octets))

-- The first `len` octets are UTF-8, and behind them stands what is unfinished.
pub record IsWholeUpTo (octets : List ℕ) (len : ℕ) : Type 0 where
  pub within : len ≤ length octets
  pub whole : IsUtf8 (take len octets)
  pub unfinished : IsUnfinished (drop len octets)

-- the octets of what is carried
abbrev pub carried_octets : Option (ArrayVec ℕ) → Option (List ℕ)
carried_octets carried = option_map (λ c. c.items) carried

-- what is carried is unfinished, and nothing is carried where no continuation is UTF-8
abbrev pub IsCarried : Option (List ℕ) → Type 0
IsCarried None = Unit {0}
IsCarried (Some carried) = IsUnfinished carried
