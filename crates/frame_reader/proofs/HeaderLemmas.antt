-- What the parts of a header say of the frame at the front.
use Rattle.frame_reader.proofs.Below.{◌==◌, not, ◌≡◌, ℕ, suc, ◌+◌, ◌-◌, ◌^◌, ◌<◌, ◌≤◌, Bool, true, false, cond, nat_lt, nat_le, ◌&&◌, ◌||◌, List, [], ◌∷◌, ◌++◌, length, take, drop, Option, Some, None, refl, sym, ap, subst, ◌∙◌, arith, inl, inr, length-drop, Width, w16, w64, byte_len, from_be_bytes, cases_lt, le-ltb, lt-ltb, drop-drop, Opcode, Continuation, Begins, Close, Ping, Pong, Reserved, unmasked, failed, Opening, is_final, has_reserved_bit, opcode_of, is_masked, seven_bits, octets_at, number_at, size_at, key_at, with_key, with_size, Begun, Front, more, ends, is_reserved, is_control, is_data, is_out_of_turn, begun_octets, is_over, refuses_first, refuses_second, frame_front, body_front, unless_breach, front_at, control_short, size_part, Grows, front_grows, size_grows, code_of, size_of, code_at, breach_sized, MessageState, FrameHeader, opened, Describes, behind, IsHeader}

-- ---- what a message that is open does to a header

pub same_turn : (message : MessageState) (begun : Option Begun) (opcode : Opcode) → Describes message begun → is_out_of_turn (opened message.kind) opcode ≡ is_out_of_turn begun opcode
same_turn message None Continuation d = rw d.0 refl
same_turn message None (Begins kind) d = rw d.0 refl
same_turn message None Close d = refl
same_turn message None Ping d = refl
same_turn message None Pong d = refl
same_turn message None Reserved d = refl
same_turn message (Some begun) Continuation d = rw d.0 refl
same_turn message (Some begun) (Begins kind) d = rw d.0 refl
same_turn message (Some begun) Close d = refl
same_turn message (Some begun) Ping d = refl
same_turn message (Some begun) Pong d = refl
same_turn message (Some begun) Reserved d = refl

pub same_first : (message : MessageState) (begun : Option Begun) (first : ℕ) → Describes message begun → refuses_first begun first ≡ refuses_first (opened message.kind) first
same_first message begun first d =
    ap (λ (turn : Bool). has_reserved_bit first || is_reserved (opcode_of first) || (is_control (opcode_of first) && not (is_final first)) || turn) (sym (same_turn message begun (opcode_of first) d))

same_held : (message : MessageState) (begun : Option Begun) → Describes message begun → message.held ≡ length (begun_octets begun)
same_held message None d = d.1
same_held message (Some begun) d = d.1

pub same_over : (message : MessageState) (begun : Option Begun) (first size : ℕ) → Describes message begun
    → is_over message.max_message begun first size ≡ (is_data (opcode_of first) && nat_lt message.max_message (message.held + size))
same_over message begun first size d = ap (λ (held : ℕ). is_data (opcode_of first) && nat_lt message.max_message (held + size)) (sym (same_held message begun d))

-- ---- the rows of what is refused

by_first : (one two : Bool) (size : Option ℕ) (top over : ℕ → Bool) (front : Front) → one ≡ true → unless_breach (code_of one two size top over) front ≡ ends (failed 1002)
by_first true two size top over front e = refl
by_first false two size top over front e = absurd cc

by_second : (one two : Bool) (size : Option ℕ) (top over : ℕ → Bool) (front : Front) → two ≡ true → unless_breach (code_of one two size top over) front ≡ ends (failed 1002)
by_second true two size top over front e = refl
by_second false true size top over front e = refl
by_second false false size top over front e = absurd cc

by_top : (one two : Bool) (size : ℕ) (top over : ℕ → Bool) (front : Front) → top size ≡ true → unless_breach (code_of one two (Some size) top over) front ≡ ends (failed 1002)
by_top true two size top over front e = refl
by_top false true size top over front e = refl
by_top false false size top over front e = rw e refl

by_over : (one two : Bool) (size : ℕ) (top over : ℕ → Bool) (front : Front) → one ≡ false → two ≡ false → top size ≡ false → over size ≡ true → unless_breach (code_of one two (Some size) top over) front ≡ ends (failed 1009)
by_over true two size top over front o t p e = absurd cc
by_over false true size top over front o t p e = absurd cc
by_over false false size top over front o t p e = rw (p, e) refl

none_at_all : (one two : Bool) (size : ℕ) (top over : ℕ → Bool) (front : Front) → one ≡ false → two ≡ false → top size ≡ false → over size ≡ false → unless_breach (code_of one two (Some size) top over) front ≡ front
none_at_all true two size top over front o t p e = absurd cc
none_at_all false true size top over front o t p e = absurd cc
none_at_all false false size top over front o t p e = rw (p, e) refl

-- ---- the front by its parts

abbrev body_of : Option Begun → Opening → Front
body_of begun o = body_front begun o.first o.size o.key o.payload o.rest

front_two : (max : ℕ) (begun : Option Begun) (first second : ℕ) (octets : List ℕ)
    → front_at max begun (first ∷ second ∷ octets) ≡ unless_breach (code_at max begun first second (size_of (size_at second octets))) (body_of begun (with_size first second (size_at second octets)))
front_two max begun first second octets =
    ap (λ code. unless_breach code (body_of begun (with_size first second (size_at second octets)))) (breach_sized max begun first second (size_at second octets))

pub refused_first : (max : ℕ) (begun : Option Begun) (raw : List ℕ) (first : ℕ) (rest : List ℕ) → raw ≡ first ∷ rest → refuses_first begun first ≡ true → front_at max begun raw ≡ ends (failed 1002)
refused_first max begun raw first [] is e = rw is (one (refuses_first begun first) e) where
  one : (refused : Bool) → refused ≡ true → unless_breach (cond refused (Some 1002) None) more ≡ ends (failed 1002)
  one true e = refl
  one false e = absurd cc
refused_first max begun raw first (second ∷ octets) is e =
    ap (front_at max begun) is ∙ front_two max begun first second octets
    ∙ by_first (refuses_first begun first) (refuses_second first second) (size_of (size_at second octets)) (nat_le (2 ^ 63)) (is_over max begun first) (body_of begun (with_size first second (size_at second octets))) e

-- ---- two octets and what follows them

-- the first two octets are there, and the first is not refused
pub record Two (begun : Option Begun) (raw : List ℕ) (first second : ℕ) (octets : List ℕ) : Type 0 where
  pub is : raw ≡ first ∷ second ∷ octets
  pub fine : refuses_first begun first ≡ false

pub two_of : (begun : Option Begun) (raw : List ℕ) (first second : ℕ) (after octets : List ℕ) → raw ≡ first ∷ after → after ≡ second ∷ octets → refuses_first begun first ≡ false → Two begun raw first second octets
two_of begun raw first second after octets e f g = record { is = e ∙ ap (λ (l : List ℕ). first ∷ l) f; fine = g }

at_two : (max : ℕ) (begun : Option Begun) (raw : List ℕ) (first second : ℕ) (octets : List ℕ) (part : Option (ℕ × List ℕ)) → Two begun raw first second octets → size_at second octets ≡ part
    → front_at max begun raw ≡ unless_breach (code_at max begun first second (size_of part)) (body_of begun (with_size first second part))
at_two max begun raw first second octets part t e =
    ap (front_at max begun) t.is ∙ front_two max begun first second octets
    ∙ ap (λ p. unless_breach (code_at max begun first second (size_of p)) (body_of begun (with_size first second p))) e

pub refused_second : (max : ℕ) (begun : Option Begun) (raw : List ℕ) (first second : ℕ) (octets : List ℕ) → Two begun raw first second octets → refuses_second first second ≡ true → front_at max begun raw ≡ ends (failed 1002)
refused_second max begun raw first second octets t e =
    at_two max begun raw first second octets (size_at second octets) t refl
    ∙ by_second (refuses_first begun first) (refuses_second first second) (size_of (size_at second octets)) (nat_le (2 ^ 63)) (is_over max begun first) (body_of begun (with_size first second (size_at second octets))) e

-- the size is there, and the first two octets are not refused
pub record Sized (begun : Option Begun) (raw : List ℕ) (first second : ℕ) (octets : List ℕ) (size : ℕ) (rest : List ℕ) : Type 0 where
  pub two : Two begun raw first second octets
  pub second_fine : refuses_second first second ≡ false
  pub size_is : size_at second octets ≡ Some (size, rest)

pub refused_top : (max : ℕ) (begun : Option Begun) (raw : List ℕ) (first second : ℕ) (octets : List ℕ) (size : ℕ) (rest : List ℕ) → Sized begun raw first second octets size rest → nat_le (2 ^ 63) size ≡ true → front_at max begun raw ≡ ends (failed 1002)
refused_top max begun raw first second octets size rest s e =
    at_two max begun raw first second octets (Some (size, rest)) s.two s.size_is
    ∙ by_top (refuses_first begun first) (refuses_second first second) size (nat_le (2 ^ 63)) (is_over max begun first) (body_of begun (with_size first second (Some (size, rest)))) e

pub refused_over : (max : ℕ) (begun : Option Begun) (raw : List ℕ) (first second : ℕ) (octets : List ℕ) (size : ℕ) (rest : List ℕ) → Sized begun raw first second octets size rest → nat_le (2 ^ 63) size ≡ false → is_over max begun first size ≡ true → front_at max begun raw ≡ ends (failed 1009)
refused_over max begun raw first second octets size rest s lt e =
    at_two max begun raw first second octets (Some (size, rest)) s.two s.size_is
    ∙ by_over (refuses_first begun first) (refuses_second first second) size (nat_le (2 ^ 63)) (is_over max begun first) (body_of begun (with_size first second (Some (size, rest)))) s.two.fine s.second_fine lt e

abbrev rest_part : Option (ℕ × List ℕ) → List ℕ
rest_part None = []
rest_part (Some part) = part.1

-- a part's octets are some of those at the front
record Past (octets rest : List ℕ) : Type 0 where
  count : ℕ
  within : count ≤ length octets
  few : count ≤ 8
  is : rest ≡ drop count octets

number_past : (w : Width) (octets : List ℕ) (size : ℕ) (rest : List ℕ) → byte_len w ≤ 8 → number_at w octets ≡ Some (size, rest) → Past octets rest
number_past w octets size rest b e = elim (cases_lt (length octets) (byte_len w)) [
  | inl short ↦ absurd (let absent : number_at w octets ≡ None = rw (lt-ltb (length octets) (byte_len w) short) refl in cc)
  | inr long ↦ record {
    count = byte_len w;
    within = long;
    few = b;
    is = let there : number_at w octets ≡ Some (from_be_bytes w (take (byte_len w) octets), drop (byte_len w) octets) = rw (le-ltb (length octets) (byte_len w) long) refl in sym (ap rest_part (sym there ∙ e));
  }
]

size_past : (second : ℕ) (octets : List ℕ) (size : ℕ) (rest : List ℕ) → size_at second octets ≡ Some (size, rest) → Past octets rest
size_past second octets size rest e = chosen (seven_bits second == 126) (seven_bits second == 127) e where
  chosen : (one two : Bool) → cond one (number_at w16 octets) (cond two (number_at w64 octets) (Some (seven_bits second, octets))) ≡ Some (size, rest) → Past octets rest
  chosen true two e = number_past w16 octets size rest (omega arith) e
  chosen false true e = number_past w64 octets size rest (omega arith) e
  chosen false false e = record { count = 0; within = omega arith; few = omega arith; is = sym (ap rest_part e) }

masked_of : (first second : ℕ) → refuses_second first second ≡ false → is_masked second ≡ true
masked_of first second e = by_test (is_masked second) (is_control (opcode_of first) && nat_le 126 (seven_bits second)) e where
  by_test : (masked long : Bool) → (not masked || long) ≡ false → masked ≡ true
  by_test true long e = refl
  by_test false long e = absurd cc

-- no part up to the size is refused
pub record Fine (max : ℕ) (begun : Option Begun) (raw : List ℕ) (first second : ℕ) (octets : List ℕ) (size : ℕ) (rest : List ℕ) : Type 0 where
  pub sized : Sized begun raw first second octets size rest
  pub low : nat_le (2 ^ 63) size ≡ false
  pub fits : is_over max begun first size ≡ false

key_at_four : (second : ℕ) (octets : List ℕ) → is_masked second ≡ true → key_at second octets ≡ octets_at 4 octets
key_at_four second octets e = ap (λ (b : Bool). octets_at (cond b 4 0) octets) e

at_key : (max : ℕ) (begun : Option Begun) (raw : List ℕ) (first second : ℕ) (octets : List ℕ) (size : ℕ) (rest : List ℕ) (part : Option (List ℕ × List ℕ)) → Fine max begun raw first second octets size rest → octets_at 4 rest ≡ part
    → front_at max begun raw ≡ body_of begun (with_key first second size part)
at_key max begun raw first second octets size rest part f e =
    at_two max begun raw first second octets (Some (size, rest)) f.sized.two f.sized.size_is
    ∙ none_at_all (refuses_first begun first) (refuses_second first second) size (nat_le (2 ^ 63)) (is_over max begun first) (body_of begun (with_size first second (Some (size, rest)))) f.sized.two.fine f.sized.second_fine f.low f.fits
    ∙ ap (λ p. body_of begun (with_key first second size p)) (key_at_four second rest (masked_of first second f.sized.second_fine) ∙ e)

-- more octets behind the header
fine_grown : (max : ℕ) (begun : Option Begun) (raw : List ℕ) (first second : ℕ) (octets : List ℕ) (size : ℕ) (rest ys : List ℕ) → Fine max begun raw first second octets size rest
    → Fine max begun (raw ++ ys) first second (octets ++ ys) size (rest ++ ys)
fine_grown max begun raw first second octets size rest ys f = record {
  sized = record {
    two = record { is = ap (λ (l : List ℕ). l ++ ys) f.sized.two.is; fine = f.sized.two.fine };
    second_fine = f.sized.second_fine;
    size_is = subst (λ part. Grows part ys (size_at second (octets ++ ys))) f.sized.size_is (size_grows second octets ys);
  };
  low = f.low;
  fits = f.fits;
}

-- a first octet that is not refused
first_parts : (bit reserved control turn : Bool) → (bit || reserved || control || turn) ≡ false → (reserved ≡ false) × (turn ≡ false)
first_parts false false false turn e = (refl, e)
first_parts false false true turn e = absurd cc
first_parts false true control turn e = absurd cc
first_parts true reserved control turn e = absurd cc

data_fits : (max : ℕ) (begun : Option Begun) (first size : ℕ) → is_over max begun first size ≡ false → is_data (opcode_of first) ≡ true → length (begun_octets begun) + size ≤ max
data_fits max begun first size e d = elim (cases_lt max (length (begun_octets begun) + size)) [
  | inl over ↦ absurd (let o : is_over max begun first size ≡ true = rw (d, lt-ltb max (length (begun_octets begun) + size) over) refl in cc)
  | inr within ↦ within
]

same_front : (begun : Option Begun) (h : FrameHeader) (final : Bool) (opcode : Opcode) (size : ℕ) (key octets octets' : List ℕ) → final ≡ h.is_final → opcode ≡ h.opcode → size ≡ h.size → key ≡ h.key → octets ≡ octets'
    → frame_front begun final opcode (length (take size octets) == size) (unmasked key 0 (take size octets)) (drop size octets) ≡ behind begun h octets'
same_front begun h final opcode size key octets octets' f o s k e =
    λ i. frame_front begun (f i) (o i) (length (take (s i) (e i)) == s i) (unmasked (k i) 0 (take (s i) (e i))) (drop (s i) (e i))

pub whole_header : (max : ℕ) (begun : Option Begun) (raw : List ℕ) (first second : ℕ) (octets : List ℕ) (size : ℕ) (rest key after : List ℕ) (h : FrameHeader) → Fine max begun raw first second octets size rest
    → key ≡ take 4 rest → after ≡ drop 4 rest → length after + 4 ≡ length rest
    → h.is_final ≡ is_final first → h.opcode ≡ opcode_of first → h.size ≡ size → h.key ≡ key → h.length ≡ length raw - length after
    → IsHeader max begun raw h
whole_header max begun raw first second octets size rest key after h f k a n hf ho hs hk hl =
    let p = size_past second octets size rest f.sized.size_is in
    let few = p.few in let within = p.within in
    let raw_is : raw ≡ first ∷ second ∷ octets = f.sized.two.is in
    let parts = first_parts (has_reserved_bit first) (is_reserved (opcode_of first)) (is_control (opcode_of first) && not (is_final first)) (is_out_of_turn begun (opcode_of first)) f.sized.two.fine in
    let long : length raw ≡ suc (suc (length octets)) = ap length raw_is in
    let left : length rest ≡ length octets - p.count = ap length p.is ∙ length-drop p.count octets in
    let used : h.length ≡ 2 + p.count + 4 = omega arith in
    let dropped : drop h.length raw ≡ after =
    ap (λ k. drop k raw) used ∙ ap (drop (2 + p.count + 4)) raw_is ∙ sym (drop-drop 4 (2 + p.count) (first ∷ second ∷ octets)) ∙ ap (drop 4) (two_past p.count ∙ sym p.is) ∙ sym a in
    record {
      some = omega arith;
      within = omega arith;
      front = λ ys.
          let there : octets_at 4 rest ≡ Some (take 4 rest, drop 4 rest) = rw (le-ltb (length rest) 4 (omega arith)) refl in
          let four : octets_at 4 (rest ++ ys) ≡ Some (take 4 rest, drop 4 rest ++ ys) =
          subst (λ part. Grows part ys (octets_at 4 (rest ++ ys))) there (front_grows 4 rest ys) in
          at_key max begun (raw ++ ys) first second (octets ++ ys) size (rest ++ ys) (Some (take 4 rest, drop 4 rest ++ ys)) (fine_grown max begun raw first second octets size rest ys f) four
          ∙ same_front begun h (is_final first) (opcode_of first) size (take 4 rest) (drop 4 rest ++ ys) (drop h.length raw ++ ys) (sym hf) (sym ho) (sym hs) (sym k ∙ sym hk) (ap (λ (l : List ℕ). l ++ ys) (sym a ∙ sym dropped));
      control = λ c.
          let s = control_short first second octets f.sized.second_fine (sym (ap is_control ho) ∙ c) in
          let same : size ≡ seven_bits second = ap size_part (sym f.sized.size_is ∙ s.1) in
          let same_rest : rest ≡ octets = ap rest_part (sym f.sized.size_is ∙ s.1) in
          let short = s.0 in
          (omega (arith, ap length same_rest), omega arith);
      known = ap is_reserved ho ∙ parts.0;
      in_turn = ap (is_out_of_turn begun) ho ∙ parts.1;
      data_fits = λ d. let x = data_fits max begun first size f.fits (sym (ap is_data ho) ∙ d) in omega arith;
    }
  where
    two_past : (count : ℕ) → drop (2 + count) (first ∷ second ∷ octets) ≡ drop count octets
    two_past count = sym (drop-drop count 2 (first ∷ second ∷ octets))
