-- The test for text, as std's `from_utf8` makes it.
use Rattle.std.proofs.Common.{◌≡◌, ℕ, true, false, List, sym, IsUtf8}
use Rattle.std.specs.Str.{is_utf8}
use Rattle.std.proofs.lemmas.Str.{IsUtf8-from_is_utf8, is_utf8-from_IsUtf8}
use Rattle.std.proofs.lemmas.Bool.{false_from_ne_true}

pub is_utf8-true : (octets : List ℕ) → IsUtf8 octets → true ≡ is_utf8 octets
is_utf8-true octets text = sym (is_utf8-from_IsUtf8 octets text)

pub is_utf8-false : (octets : List ℕ) → ¬ (IsUtf8 octets) → false ≡ is_utf8 octets
is_utf8-false octets h = sym (false_from_ne_true (is_utf8 octets) (λ is. h (IsUtf8-from_is_utf8 octets is)))

pub ruleset utf8_tests = (is_utf8-true, is_utf8-false)
