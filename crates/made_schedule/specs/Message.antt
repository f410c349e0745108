-- The message that a state gives.
use Rattle.std.specs.Prelude.{ℕ, ◌+◌, ◌/◌, ◌%◌, ◌^◌, List, [], ◌∷◌, ◌++◌, nat_lt, if◌then◌else◌}
use Rattle.std.specs.Int.{bytes_high_first}
use Rattle.link_trait.specs.declared.act.Act.{Act}
use Rattle.link_trait.specs.declared.act.Act.TheVariants as act
use Rattle.wire_meaning.specs.Mask.{unmasked}

-- a number below 16 as a lower-case hexadecimal digit
abbrev pub hex_digit : ℕ → ℕ
hex_digit n = if nat_lt n 10 then 48 + n else 87 + n

-- octets as hexadecimal digits, two for each
abbrev pub hex : List ℕ → List ℕ
hex [] = []
hex (octet ∷ octets) = hex_digit (octet / 16) ∷ hex_digit (octet % 16) ∷ hex octets

-- the state as sixteen hexadecimal digits, with leading zeros
abbrev pub body_of : ℕ → List ℕ
body_of state = hex (bytes_high_first 8 state)

-- the four low octets of the state, the highest of them first
abbrev pub key_of : ℕ → List ℕ
key_of state = bytes_high_first 4 state

-- 81 90, the key, and the body masked with it
unfoldable pub octets_of : ℕ → List ℕ
octets_of state = 129 ∷ 144 ∷ key_of state ++ unmasked (key_of state) 0 (body_of state)

-- the number of the connection that sends them
abbrev pub sender_of : ℕ → ℕ
sender_of state = 1 + state / 2 ^ 58

abbrev pub message : ℕ → Act
message state = act.Octets (record { 0 = sender_of state }) (octets_of state)
