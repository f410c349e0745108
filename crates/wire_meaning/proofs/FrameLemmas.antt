-- A whole masked frame, read.
use Rattle.wire_meaning.proofs.Below.{not, ◌≡◌, ℕ, ◌+◌, ◌%◌, ◌^◌, ◌<◌, ◌≤◌, Bool, true, false, nat_lt, nat_le, ◌&&◌, List, ◌∷◌, ◌++◌, length, Option, Some, refl, ap, ◌∙◌, append_assoc, arith, inl, inr, length-append, Width, w16, w64, byte_len, from_be_bytes, to_be_bytes, cases_lt, le-ltb, lt-ltb, ne_eqb, eq-eqb, lt-leb, le-leb, take_at, drop_at, from_be_bytes-to_be_bytes_2, from_be_bytes-to_be_bytes_8, Text, Binary, Opcode, Continuation, Begins, Close, Ping, Pong, Reserved, unmasked, Opening, opening, is_final, has_reserved_bit, opcode_of, is_masked, seven_bits, number_at, size_at, key_at, with_key, with_size, size_octets, first_octet, masked_frame, Begun, is_control, is_data, is_reserved, refuses_first, refuses_second, begun_octets, is_over, breach, frame_front, body_front, unless_breach, front_at, events_from, reads, IsAllowed}
use Rattle.wire_meaning.proofs.MaskLemmas.{length-unmasked, unmasked-unmasked}
use Rattle.wire_meaning.proofs.ReadingLemmas.{reads_is}

number_back : (w : Width) (n : ℕ) (rest : List ℕ) → length (to_be_bytes w n) ≡ byte_len w → from_be_bytes w (to_be_bytes w n) ≡ n → number_at w (to_be_bytes w n ++ rest) ≡ Some (n, rest)
number_back w n rest len back =
    let within : byte_len w ≤ length (to_be_bytes w n ++ rest) = omega (arith, length-append (to_be_bytes w n) rest) in
    rw (le-ltb (length (to_be_bytes w n ++ rest)) (byte_len w) within, take_at (to_be_bytes w n) rest (byte_len w) len, drop_at (to_be_bytes w n) rest (byte_len w) len, back) refl

record Sized (n : ℕ) (body : List ℕ) : Type 0 where
  second : ℕ
  tail : List ℕ
  spelled : size_octets 128 n ++ body ≡ second ∷ tail
  size : size_at second tail ≡ Some (n, body)
  masked : is_masked second ≡ true
  short : n ≤ 125 → nat_le 126 (seven_bits second) ≡ false

sized_short : (n : ℕ) (body : List ℕ) → n < 126 → Sized n body
sized_short n body p =
    let seven : (128 + n) % 128 ≡ n = omega arith in
    record {
      second = 128 + n;
      tail = body;
      spelled = rw (lt-ltb n 126 p) refl;
      size = rw (seven, ne_eqb n 126 (omega arith), ne_eqb n 127 (omega arith)) refl;
      masked = le-leb 128 (128 + n) (omega arith);
      short = λ h. rw seven (lt-leb 126 n (omega arith));
    }

sized_middle : (n : ℕ) (body : List ℕ) → 126 ≤ n → n < 2 ^ 16 → Sized n body
sized_middle n body p q = record {
  second = 254;
  tail = to_be_bytes w16 n ++ body;
  spelled = rw (le-ltb n 126 p, lt-ltb n (2 ^ 16) q) refl;
  size = number_back w16 n body refl (from_be_bytes-to_be_bytes_2 n q);
  masked = refl;
  short = λ h. absurd (omega arith);
}

sized_long : (n : ℕ) (body : List ℕ) → 2 ^ 16 ≤ n → n < 2 ^ 64 → Sized n body
sized_long n body p q = let low : 126 ≤ n = omega arith in record {
  second = 255;
  tail = to_be_bytes w64 n ++ body;
  spelled = rw (le-ltb n 126 low, le-ltb n (2 ^ 16) p) refl;
  size = number_back w64 n body refl (from_be_bytes-to_be_bytes_8 n q);
  masked = refl;
  short = λ h. absurd (omega arith);
}

sized : (n : ℕ) (body : List ℕ) → n < 2 ^ 64 → Sized n body
sized n body p = elim (cases_lt n 126) [
  | inl short ↦ sized_short n body short
  | inr more ↦ elim (cases_lt n (2 ^ 16)) [ inl middle ↦ sized_middle n body more middle | inr long ↦ sized_long n body long p ]
]

key_back : (second : ℕ) (key rest : List ℕ) → is_masked second ≡ true → length key ≡ 4 → key_at second (key ++ rest) ≡ Some (key, rest)
key_back second key rest masked len =
    let within : 4 ≤ length (key ++ rest) = omega (arith, length-append key rest) in
    rw (masked, le-ltb (length (key ++ rest)) 4 within, take_at key rest 4 len, drop_at key rest 4 len) refl

abbrev whole_opening : ℕ → ℕ → List ℕ → List ℕ → List ℕ → Opening
whole_opening first second key payload rest =
    record { first = Some first; second = Some second; size = Some (length payload); key = Some key; payload = unmasked key 0 payload; rest = rest }

opening_back : (first second : ℕ) (key payload rest tail : List ℕ) → length key ≡ 4 → is_masked second ≡ true
    → size_at second tail ≡ Some (length payload, key ++ (unmasked key 0 payload ++ rest)) → opening (first ∷ second ∷ tail) ≡ whole_opening first second key payload rest
opening_back first second key payload rest tail len masked size =
    ap (with_size first second) size
    ∙ ap (with_key first second (length payload)) (key_back second key (unmasked key 0 payload ++ rest) masked len)
    ∙ rw (take_at (unmasked key 0 payload) rest (length payload) (length-unmasked key 0 payload), drop_at (unmasked key 0 payload) rest (length payload) (length-unmasked key 0 payload)) refl

-- ---- what the first octet says

record Says (final : Bool) (opcode : Opcode) : Type 0 where
  bits : has_reserved_bit (first_octet final opcode) ≡ false
  final_bit : is_final (first_octet final opcode) ≡ final
  opcode_bits : opcode_of (first_octet final opcode) ≡ opcode

says : (final : Bool) (opcode : Opcode) → is_reserved opcode ≡ false → Says final opcode
says true Continuation h = record { bits = refl; final_bit = refl; opcode_bits = refl }
says false Continuation h = record { bits = refl; final_bit = refl; opcode_bits = refl }
says true (Begins Text) h = record { bits = refl; final_bit = refl; opcode_bits = refl }
says false (Begins Text) h = record { bits = refl; final_bit = refl; opcode_bits = refl }
says true (Begins Binary) h = record { bits = refl; final_bit = refl; opcode_bits = refl }
says false (Begins Binary) h = record { bits = refl; final_bit = refl; opcode_bits = refl }
says true Close h = record { bits = refl; final_bit = refl; opcode_bits = refl }
says false Close h = record { bits = refl; final_bit = refl; opcode_bits = refl }
says true Ping h = record { bits = refl; final_bit = refl; opcode_bits = refl }
says false Ping h = record { bits = refl; final_bit = refl; opcode_bits = refl }
says true Pong h = record { bits = refl; final_bit = refl; opcode_bits = refl }
says false Pong h = record { bits = refl; final_bit = refl; opcode_bits = refl }
says final Reserved h = absurd (cc)

and_false : (a b : Bool) → (a ≡ true → b ≡ false) → (a && b) ≡ false
and_false true b h = h refl
and_false false b h = refl

-- ---- a frame that is not refused

first_passes : (max : ℕ) (begun : Option Begun) (final : Bool) (opcode : Opcode) (size : ℕ) → IsAllowed max begun final opcode size → refuses_first begun (first_octet final opcode) ≡ false
first_passes max begun final opcode size a =
    let s = says final opcode a.known in
    rw (s.bits, s.opcode_bits, s.final_bit, a.known, and_false (is_control opcode) (not final) (λ c. ap not (a.control_final c)), a.in_turn) refl

second_passes : (max : ℕ) (begun : Option Begun) (final : Bool) (opcode : Opcode) (size second : ℕ) → IsAllowed max begun final opcode size → is_masked second ≡ true
    → (size ≤ 125 → nat_le 126 (seven_bits second) ≡ false) → refuses_second (first_octet final opcode) second ≡ false
second_passes max begun final opcode size second a masked short =
    let s = says final opcode a.known in
    rw (masked, s.opcode_bits, and_false (is_control opcode) (nat_le 126 (seven_bits second)) (λ c. short (a.control_short c))) refl

over_passes : (max : ℕ) (begun : Option Begun) (final : Bool) (opcode : Opcode) (size : ℕ) → IsAllowed max begun final opcode size → is_over max begun (first_octet final opcode) size ≡ false
over_passes max begun final opcode size a =
    let s = says final opcode a.known in
    rw s.opcode_bits (and_false (is_data opcode) (nat_lt max (length (begun_octets begun) + size)) (λ d. le-ltb max (length (begun_octets begun) + size) (a.data_fits d)))

front_back : (max : ℕ) (begun : Option Begun) (key : List ℕ) (final : Bool) (opcode : Opcode) (second : ℕ) (payload rest : List ℕ) → IsAllowed max begun final opcode (length payload)
    → is_masked second ≡ true → (length payload ≤ 125 → nat_le 126 (seven_bits second) ≡ false) → (o : Opening) → o ≡ whole_opening (first_octet final opcode) second key payload rest
    → unless_breach (breach max begun o) (body_front begun o.first o.size o.key o.payload o.rest) ≡ frame_front begun final opcode true payload rest
front_back max begun key final opcode second payload rest a masked short o e =
    let s = says final opcode a.known in
    let w = whole_opening (first_octet final opcode) second key payload rest in
    let n = length payload in
    ap (λ (o : Opening). unless_breach (breach max begun o) (body_front begun o.first o.size o.key o.payload o.rest)) e
    ∙ rw (first_passes max begun final opcode (length payload) a, second_passes max begun final opcode (length payload) second a masked short, lt-leb (2 ^ 63) (length payload) a.small, over_passes max begun final opcode (length payload) a)
    (rw (s.final_bit, s.opcode_bits, length-unmasked key 0 payload, eq-eqb (length payload) (length payload) refl, unmasked-unmasked key 0 payload) refl)

frame_parts : (key : List ℕ) (final : Bool) (opcode : Opcode) (payload rest : List ℕ) → masked_frame key final opcode payload ++ rest ≡ first_octet final opcode ∷ (size_octets 128 (length payload) ++ (key ++ (unmasked key 0 payload ++ rest)))
frame_parts key final opcode payload rest = ap (λ (l : List ℕ). first_octet final opcode ∷ l)
    (append_assoc (size_octets 128 (length payload)) (key ++ unmasked key 0 payload) rest ∙ ap (λ (l : List ℕ). size_octets 128 (length payload) ++ l) (append_assoc key (unmasked key 0 payload) rest))

pub front_of_frame : (max : ℕ) (begun : Option Begun) (key : List ℕ) (final : Bool) (opcode : Opcode) (payload rest : List ℕ) → length key ≡ 4 → IsAllowed max begun final opcode (length payload)
    → front_at max begun (masked_frame key final opcode payload ++ rest) ≡ frame_front begun final opcode true payload rest
front_of_frame max begun key final opcode payload rest len a =
    let body = key ++ (unmasked key 0 payload ++ rest) in
    let small = a.small in
    let s = sized (length payload) (key ++ (unmasked key 0 payload ++ rest)) (omega arith) in
    ap (front_at max begun) (frame_parts key final opcode payload rest ∙ ap (λ (l : List ℕ). first_octet final opcode ∷ l) s.spelled)
    ∙ front_back max begun key final opcode s.second payload rest a s.masked s.short (opening (first_octet final opcode ∷ s.second ∷ s.tail))
    (opening_back (first_octet final opcode) s.second key payload rest s.tail len s.masked s.size)

-- the reading of a frame and what follows it
pub reads-frame : (max : ℕ) (begun : Option Begun) (key : List ℕ) (final : Bool) (opcode : Opcode) (payload rest : List ℕ) → length key ≡ 4 → IsAllowed max begun final opcode (length payload)
    → reads max begun (masked_frame key final opcode payload ++ rest) ≡ events_from (reads max) (frame_front begun final opcode true payload rest)
reads-frame max begun key final opcode payload rest len a =
    reads_is max begun (masked_frame key final opcode payload ++ rest) ∙ ap (events_from (reads max)) (front_of_frame max begun key final opcode payload rest len a)
