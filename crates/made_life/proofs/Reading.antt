-- The messages of a connection are read as they were sent.
use Rattle.std.proofs.Common.{◌≡◌, ◌<◌, ℕ, zero, suc, ◌+◌, ◌*◌, ◌/◌, ◌%◌, ◌^◌, Bool, true, false, cond, nat_lt, List, [], ◌∷◌, ◌++◌, length, map, refl, ap, ◌∙◌, arith}
use Rattle.std.specs.List.{flat_map}
use Rattle.std.specs.Int.{byte_at, bytes_high_first}
use Rattle.std.specs.Str.{IsAscii, is_utf8}
use Rattle.std.proofs.lemmas.Str.{IsUtf8-from_ascii, is_utf8-from_IsUtf8}
use Rattle.std.proofs.lemmas.Str.Ascii.{IsAscii-nil, IsAscii-cons}
use Rattle.ws_kinds.specs.declared.kind.Kind.TheVariants.{Text}
use Rattle.wire_meaning.specs.declared.frame.Opcode.TheVariants.{Begins}
use Rattle.wire_meaning.specs.Answer.{Sent, sent_octets, KeepsRules}
use Rattle.wire_meaning.specs.Event.{Event, message}
use Rattle.wire_meaning.specs.Reading.{reading, reads, reads_within}
use Rattle.wire_meaning.proofs.SentLemmas.{reading-sent}
use Rattle.made_schedule.specs.Message.{body_of, hex, hex_digit, key_of, octets_of}

high_first_length : (k n : ℕ) → length (bytes_high_first k n) ≡ k
high_first_length zero n = refl
high_first_length (suc k) n = ap suc (high_first_length k n)

byte_small : (k n : ℕ) → byte_at k n < 256
byte_small zero n = omega arith
byte_small (suc k) n = let m = n / 256 ^ suc k in remainder m
  where
    remainder : (m : ℕ) → m % 256 < 256
    remainder m = omega arith

hex_length : (xs : List ℕ) → length (hex xs) ≡ 2 * length xs
hex_length [] = refl
hex_length (x ∷ xs) = omega (arith, hex_length xs)

digit_ascii : (n : ℕ) → n < 16 → hex_digit n < 128
digit_ascii n low = one (nat_lt n 10) refl
  where
    one : (b : Bool) → nat_lt n 10 ≡ b → cond b (48 + n) (87 + n) < 128
    one true is = omega (arith, low)
    one false is = omega (arith, low)

hex_ascii : (k n : ℕ) → IsAscii (hex (bytes_high_first k n))
hex_ascii zero n = IsAscii-nil
hex_ascii (suc k) n =
    let small = byte_small k n in
    IsAscii-cons (hex_digit (byte_at k n / 16)) (hex_digit (byte_at k n % 16) ∷ hex (bytes_high_first k n)) (digit_ascii (byte_at k n / 16) (omega (arith, small)))
    (IsAscii-cons (hex_digit (byte_at k n % 16)) (hex (bytes_high_first k n)) (digit_ascii (byte_at k n % 16) (omega arith)) (hex_ascii k n))

pub body_length : (state : ℕ) → length (body_of state) ≡ 16
body_length state = hex_length (bytes_high_first 8 state) ∙ ap (λ k. 2 * k) (high_first_length 8 state)

pub body_text : (state : ℕ) → is_utf8 (body_of state) ≡ true
body_text state = is_utf8-from_IsUtf8 (body_of state) (IsUtf8-from_ascii (body_of state) (hex_ascii 8 state))

-- the frame that a state gives
abbrev made_frame : ℕ → Sent
made_frame state = record { key = key_of state; opcode = Begins Text; payload = body_of state }

-- it keeps the rules
frame_keeps : (state : ℕ) → KeepsRules 16384 (made_frame state)
frame_keeps state =
    let size = body_length state in
    record {
      key = high_first_length 4 state;
      allowed = record { known = refl; in_turn = refl; control_final = λ e. cc; control_short = λ e. cc; data_fits = λ e. omega (arith, size); small = omega (arith, size) };
      text = λ e. IsUtf8-from_ascii (body_of state) (hex_ascii 8 state);
    }

frame_octets : (state : ℕ) → octets_of state ≡ sent_octets (made_frame state)
unfolding octets_of
frame_octets state = rw (body_length state) refl

read_one : (state : ℕ) (rest : List ℕ) → reading 16384 (octets_of state ++ rest) ≡ message Text (body_of state) ∷ reading 16384 rest
read_one state rest = ap (λ (l : List ℕ). reading 16384 (l ++ rest)) (frame_octets state) ∙ reading-sent 16384 (made_frame state) rest (frame_keeps state)

read_none : reading 16384 [] ≡ []
unfolding reads reads_within
read_none = refl

pub read_all : (states : List ℕ) → reading 16384 (flat_map octets_of states) ≡ map (λ state. message Text (body_of state)) states
read_all [] = read_none
read_all (state ∷ states) = read_one state (flat_map octets_of states) ∙ ap (λ (l : List Event). message Text (body_of state) ∷ l) (read_all states)
