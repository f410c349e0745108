-- Masking, RFC 6455 section 5.3.
use Rattle.std.specs.Prelude.{ℕ, ◌+◌, ◌%◌, List, [], ◌∷◌, slice_index, bit_xor}

-- The octets XORed with the masking key: octet i with the key's octet at (place + i) modulo 4 (5.3). `place` says
-- where in the payload the octets begin, 0 for a whole payload. Masking and unmasking are the same.
abbrev pub unmasked : List ℕ → ℕ → List ℕ → List ℕ
unmasked key place [] = []
unmasked key place (octet ∷ octets) = bit_xor octet (slice_index key (place % 4)) ∷ unmasked key (place + 1) octets
