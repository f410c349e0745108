-- The key of a head.
use Rattle.upgrade_head.proofs.Below.{◌≡◌, ℕ, ◌<◌, true, List, Option, Some, None, length, MatchOption, option_copied, Bor, arith, sym, ap, ◌∙◌, IsFirstChunk, take_all, is_key, checked_key}

-- the first chunk of a value that is no longer than the chunk is the value
pub whole_chunk : (chunk : Option (Bor (List ℕ))) (value : List ℕ) (n : ℕ) → MatchOption chunk (length value < n) (λ y. IsFirstChunk value y.now n)
    → length value ≡ n → option_copied chunk ≡ Some value
whole_chunk None value n short size = absurd (omega arith)
whole_chunk (Some chunk) value n is size = ap Some (is.same ∙ take_all n value (omega arith))

checked : (value : List ℕ) → true ≡ is_key value → checked_key (Some value) ≡ Some value
checked value is = rw (sym is)

pub key_is : (value : List ℕ) (found : Option (List ℕ)) → Some value ≡ found → true ≡ is_key value → Some value ≡ checked_key found
key_is value found is good = sym (checked value good) ∙ ap checked_key is
