-- Frames, RFC 6455 section 5.2: the parts of the frame at the front of some octets, and how a frame is spelled.
use Rattle.std.specs.Prelude.{ℕ, ◌+◌, ◌/◌, ◌%◌, ◌^◌, Bool, nat_lt, nat_le, ◌==◌, if◌then◌else◌, not, List, [], ◌∷◌, ◌++◌, length, take, drop, Option, None, Some}
use Rattle.std.specs.Int.{Width, w16, w64, byte_len, from_be_bytes, to_be_bytes}
use Rattle.ws_kinds.specs.declared.kind.Kind.TheVariants.{Text, Binary}
use Rattle.wire_meaning.specs.declared.frame.Opcode.{Opcode}
use Rattle.wire_meaning.specs.declared.frame.Opcode.TheVariants.{Continuation, Begins, Close, Ping, Pong, Reserved}
use Rattle.wire_meaning.specs.Mask.{unmasked}

-- ---- the first two octets

-- FIN, the top bit of the first octet: the frame is the last fragment of its message
abbrev pub is_final : ℕ → Bool
is_final first = nat_le 128 first

-- RSV1, RSV2 or RSV3, the three bits below FIN, is 1
abbrev pub has_reserved_bit : ℕ → Bool
has_reserved_bit first = not (first / 16 % 8 == 0)

-- the number of an opcode; Reserved stands for several, 3 among them, and no frame that is sent has it
abbrev pub opcode_number : Opcode → ℕ
opcode_number Continuation = 0
opcode_number (Begins Text) = 1
opcode_number (Begins Binary) = 2
opcode_number Close = 8
opcode_number Ping = 9
opcode_number Pong = 10
opcode_number Reserved = 3

-- the opcode whose number the low four bits of the first octet are; 3 to 7 and 11 to 15 are reserved
abbrev pub opcode_of : ℕ → Opcode
opcode_of first = let low = first % 16 in
    if low == opcode_number Continuation then Continuation
    else (if low == opcode_number (Begins Text) then Begins Text
    else (if low == opcode_number (Begins Binary) then Begins Binary
    else (if low == opcode_number Close then Close
    else (if low == opcode_number Ping then Ping
    else (if low == opcode_number Pong then Pong else Reserved)))))

-- MASK, the top bit of the second octet: the payload is masked, and a key stands before it
abbrev pub is_masked : ℕ → Bool
is_masked second = nat_le 128 second

-- the low seven bits of the second octet: the payload's length, or 126 or 127
abbrev pub seven_bits : ℕ → ℕ
seven_bits second = second % 128

-- ---- the parts that are present

-- so many octets, and what follows them, where all of them are there
abbrev pub octets_at : ℕ → List ℕ → Option (List ℕ × List ℕ)
octets_at count octets = if nat_lt (length octets) count then None else Some (take count octets, drop count octets)

-- a number in network order, and what follows it, where all its octets are there
abbrev pub number_at : Width → List ℕ → Option (ℕ × List ℕ)
number_at w octets = if nat_lt (length octets) (byte_len w) then None
    else Some (from_be_bytes w (take (byte_len w) octets), drop (byte_len w) octets)

-- The payload's length, and what follows it: the seven bits, or for 126 the 2 octets and for 127 the 8 octets behind
-- them. A length that is spelled longer than needed is taken, though 5.2 wants the shortest: this server's choice.
abbrev pub size_at : ℕ → List ℕ → Option (ℕ × List ℕ)
size_at second octets =
    if seven_bits second == 126 then number_at w16 octets
    else (if seven_bits second == 127 then number_at w64 octets else Some (seven_bits second, octets))

-- the masking key, and what follows it: 4 octets where MASK is 1, and none where it is 0
abbrev pub key_at : ℕ → List ℕ → Option (List ℕ × List ℕ)
key_at second octets = octets_at (if is_masked second then 4 else 0) octets

-- What octets tell of their first frame: its parts, from the left, and what stands behind it. A part is there where
-- all its octets are.
pub record Opening : Type 0 where
  pub first : Option ℕ
  pub second : Option ℕ
  pub size : Option ℕ
  pub key : Option (List ℕ)
  -- the payload octets present, still masked, at most as many as the length says
  pub payload : List ℕ
  -- what follows the frame
  pub rest : List ℕ

-- the parts of a frame up to its length, and then the key with what follows it, or no key so far
abbrev pub with_key : ℕ → ℕ → ℕ → Option (List ℕ × List ℕ) → Opening
with_key first second size None =
    record { first = Some first; second = Some second; size = Some size; key = None; payload = []; rest = [] }
with_key first second size (Some (key, octets)) =
    record { first = Some first; second = Some second; size = Some size; key = Some key; payload = take size octets; rest = drop size octets }

-- the first two octets, and then the length with what follows it, or no length so far
abbrev pub with_size : ℕ → ℕ → Option (ℕ × List ℕ) → Opening
with_size first second None =
    record { first = Some first; second = Some second; size = None; key = None; payload = []; rest = [] }
with_size first second (Some (size, octets)) = with_key first second size (key_at second octets)

-- what these octets tell of their first frame
abbrev pub opening : List ℕ → Opening
opening [] = record { first = None; second = None; size = None; key = None; payload = []; rest = [] }
opening (first ∷ []) = record { first = Some first; second = None; size = None; key = None; payload = []; rest = [] }
opening (first ∷ second ∷ octets) = with_size first second (size_at second octets)

-- ---- spelling

-- the second octet and the octets behind it, by the shortest spelling of the length; `mask` is 128 for MASK, or 0
abbrev pub size_octets : ℕ → ℕ → List ℕ
size_octets mask size =
    if nat_lt size 126 then (mask + size) ∷ []
    else (if nat_lt size (2 ^ 16) then (mask + 126) ∷ to_be_bytes w16 size else (mask + 127) ∷ to_be_bytes w64 size)

-- FIN and the opcode, with no reserved bit
abbrev pub first_octet : Bool → Opcode → ℕ
first_octet final opcode = (if final then 128 else 0) + opcode_number opcode

-- the first octet and the length: what stands before the key and the payload
abbrev pub header_with : ℕ → ℕ → ℕ → List ℕ
header_with first mask size = first ∷ size_octets mask size

-- the header of an unmasked frame with FIN 1, an opcode of this number and a payload of so many octets
abbrev pub header : ℕ → ℕ → List ℕ
header op size = header_with (128 + op) 0 size

-- the unmasked frame, as a server sends it (5.1)
abbrev pub frame : Bool → Opcode → List ℕ → List ℕ
frame final opcode payload = header_with (first_octet final opcode) 0 (length payload) ++ payload

-- the frame masked with a key, as a client sends it (5.1 and 5.3)
abbrev pub masked_frame : List ℕ → Bool → Opcode → List ℕ → List ℕ
masked_frame key final opcode payload = header_with (first_octet final opcode) 128 (length payload) ++ (key ++ unmasked key 0 payload)
