-- The reading, frame by frame, what each frame can give, and that the reading's bound is none.
use Rattle.wire_meaning.proofs.Below.{not, ◌==◌, ◌||◌, nat_le, IsUtf8, ◌≡◌, ℕ, zero, suc, ◌+◌, ◌^◌, ◌<◌, ◌≤◌, Bool, true, false, cond, nat_lt, ◌&&◌, List, [], ◌∷◌, ◌++◌, length, take, drop, Option, Some, None, refl, sym, ap, subst, ◌∙◌, append_assoc, arith, inl, inr, length-append, length-drop, length-take, cond_both, cases_lt, ne_eqb, le-leb, not-false, nat_tests, append-nil, IsUtf8-from_is_utf8, Width, w16, w64, byte_len, is_utf8, Kind, Text, Binary, Opcode, Continuation, Begins, Close, Ping, Pong, Reserved, unmasked, Opening, opening, is_final, opcode_of, is_masked, seven_bits, octets_at, number_at, size_at, key_at, with_key, with_size, is_text_front, Event, message, ping, pong, closed, failed, closing, close_code, is_sendable, is_last, Begun, Front, more, ends, opens, gives, is_text, is_data, is_control, begun_octets, refuses_first, refuses_second, is_over, part_is, parts_are, breach, data_front, frame_front, body_front, unless_breach, front_at, events_from, reads_within, reads, CanBeTold}
use Rattle.wire_meaning.proofs.MaskLemmas.{length-unmasked}

-- ---- each frame takes octets, and what it tells is sound

-- what the front of so many octets can be
abbrev pub Yields : ℕ → ℕ → Front → Type 0
Yields max n more = Unit {0}
Yields max n (ends event) = CanBeTold max event
Yields max n (opens begun rest) = length rest < n
Yields max n (gives event begun rest) = (length rest < n) × (is_last event ≡ false) × CanBeTold max event

text_told : (kind : Kind) (all : List ℕ) → (is_text kind && not (is_utf8 all)) ≡ false → kind ≡ Text → IsUtf8 all
text_told Text all e t = IsUtf8-from_is_utf8 all (not-false (is_utf8 all) e)
text_told Binary all e t = absurd cc

data_yields : (max n : ℕ) (final whole : Bool) (kind : Kind) (all rest : List ℕ) → length rest < n → length all ≤ max → Yields max n (data_front final whole kind all rest)
data_yields max n final whole kind all rest h fits =
    cond_both (is_text kind && not (is_text_front all)) (ends (failed 1007)) _ (Yields max n) (λ _. refl) (λ _.
    cond_both (not whole) more _ (Yields max n) (λ _. tt) (λ _.
    cond_both (not final) (opens (record { kind = kind; octets = all }) rest) _ (Yields max n) (λ _. h) (λ _.
    cond_both (is_text kind && not (is_utf8 all)) (ends (failed 1007)) (gives (message kind all) None rest) (Yields max n) (λ _. refl)
    (λ text. (h, refl, (fits, text_told kind all text))))))

closing_told : (max : ℕ) (payload : List ℕ) → length payload ≤ 125 → CanBeTold max (closing payload)
closing_told max payload short =
    cond_both (length payload == 0) (closed 1005 []) _ (CanBeTold max) (λ _. inl (refl, refl)) (λ _.
    cond_both (length payload == 1) (failed 1002) _ (CanBeTold max) (λ _. refl) (λ _.
    cond_both (not (is_sendable (close_code payload))) (failed 1002) _ (CanBeTold max) (λ _. refl) (λ code.
    cond_both (not (is_utf8 (drop 2 payload))) (failed 1007) (closed (close_code payload) (drop 2 payload)) (CanBeTold max) (λ _. refl)
    (λ text. inr (not-false (is_sendable (close_code payload)) code, IsUtf8-from_is_utf8 (drop 2 payload) (not-false (is_utf8 (drop 2 payload)) text), omega (arith, length-drop 2 payload))))))

-- a data frame that is not over the limit
not_over : (max n : ℕ) → (true && nat_lt max n) ≡ false → n ≤ max
not_over max n e = grind (arith, nat_tests)

frame_yields : (max n size : ℕ) (begun : Option Begun) (final : Bool) (opcode : Opcode) (whole : Bool) (payload rest : List ℕ) → length rest < n → length payload ≤ size
    → (is_data opcode && nat_lt max (length (begun_octets begun) + size)) ≡ false → (is_control opcode ≡ true → size ≤ 125) → Yields max n (frame_front begun final opcode whole payload rest)
frame_yields max n size (Some begun) final Continuation whole payload rest h p over short =
    let fits = not_over max (length begun.octets + size) over in
    data_yields max n final whole begun.kind (begun.octets ++ payload) rest h (omega (arith, length-append begun.octets payload))
frame_yields max n size None final Continuation whole payload rest h p over short = refl
frame_yields max n size (Some begun) final (Begins kind) whole payload rest h p over short = refl
frame_yields max n size None final (Begins kind) whole payload rest h p over short = let fits = not_over max (0 + size) over in data_yields max n final whole kind payload rest h (omega arith)
frame_yields max n size (Some begun) final Ping whole payload rest h p over short =
    let s = short refl in cond_both whole (gives (ping payload) (Some begun) rest) more (Yields max n) (λ _. (h, refl, omega arith)) (λ _. tt)
frame_yields max n size None final Ping whole payload rest h p over short =
    let s = short refl in cond_both whole (gives (ping payload) None rest) more (Yields max n) (λ _. (h, refl, omega arith)) (λ _. tt)
frame_yields max n size (Some begun) final Pong whole payload rest h p over short =
    let s = short refl in cond_both whole (gives (pong payload) (Some begun) rest) more (Yields max n) (λ _. (h, refl, omega arith)) (λ _. tt)
frame_yields max n size None final Pong whole payload rest h p over short =
    let s = short refl in cond_both whole (gives (pong payload) None rest) more (Yields max n) (λ _. (h, refl, omega arith)) (λ _. tt)
frame_yields max n size (Some begun) final Close whole payload rest h p over short =
    let s = short refl in cond_both whole (ends (closing payload)) more (Yields max n) (λ _. closing_told max payload (omega arith)) (λ _. tt)
frame_yields max n size None final Close whole payload rest h p over short =
    let s = short refl in cond_both whole (ends (closing payload)) more (Yields max n) (λ _. closing_told max payload (omega arith)) (λ _. tt)
frame_yields max n size (Some begun) final Reserved whole payload rest h p over short = refl
frame_yields max n size None final Reserved whole payload rest h p over short = refl

-- ---- the header

-- a part leaves no more than there was
abbrev Leaves : {A : Type 0} → ℕ → Option (A × List ℕ) → Type 0
Leaves n None = Unit {0}
Leaves n (Some part) = length part.1 ≤ n

front_leaves : (count : ℕ) (octets : List ℕ) → Leaves (length octets) (octets_at count octets)
front_leaves count octets = cond_both (nat_lt (length octets) count) None (Some (take count octets, drop count octets)) (Leaves (length octets)) (λ _. tt) (λ _. omega (arith, length-drop count octets))

number_leaves : (w : Width) (octets : List ℕ) → Leaves (length octets) (number_at w octets)
number_leaves w octets = cond_both (nat_lt (length octets) (byte_len w)) None (Some (_, drop (byte_len w) octets)) (Leaves (length octets)) (λ _. tt) (λ _. omega (arith, length-drop (byte_len w) octets))

size_leaves : (second : ℕ) (octets : List ℕ) → Leaves (length octets) (size_at second octets)
size_leaves second octets =
    cond_both (seven_bits second == 126) (number_at w16 octets) _ (Leaves (length octets)) (λ _. number_leaves w16 octets) (λ _.
    cond_both (seven_bits second == 127) (number_at w64 octets) (Some (seven_bits second, octets)) (Leaves (length octets)) (λ _. number_leaves w64 octets) (λ _. omega arith))

-- a control frame's size stands in its second octet
pub control_short : (first second : ℕ) (octets : List ℕ) → refuses_second first second ≡ false → is_control (opcode_of first) ≡ true → (seven_bits second < 126) × (size_at second octets ≡ Some (seven_bits second, octets))
control_short first second octets e control = elim (cases_lt (seven_bits second) 126) [
  | inl low ↦ (low, rw (ne_eqb (seven_bits second) 126 (omega arith), ne_eqb (seven_bits second) 127 (omega arith)) refl)
  | inr high ↦ absurd (by_test (is_masked second) (is_control (opcode_of first)) (nat_le 126 (seven_bits second)) e control (le-leb 126 (seven_bits second) high))
] where
  by_test : (masked control long : Bool) → (not masked || (control && long)) ≡ false → control ≡ true → long ≡ true → ⊥
  by_test false control long e c l = cc
  by_test true false long e c l = cc
  by_test true true false e c l = cc
  by_test true true true e c l = cc

abbrev pub size_part : Option (ℕ × List ℕ) → ℕ
size_part None = 0
size_part (Some part) = part.0

unless_yields : (max n : ℕ) (one two three four : Bool) (front : Front) → (two ≡ false → four ≡ false → Yields max n front)
    → Yields max n (unless_breach (cond one (Some 1002) (cond two (Some 1002) (cond three (Some 1002) (cond four (Some 1009) None)))) front)
unless_yields max n true two three four front h = refl
unless_yields max n false true three four front h = refl
unless_yields max n false false true four front h = refl
unless_yields max n false false false true front h = refl
unless_yields max n false false false false front h = h refl refl

-- the front that these parts give
abbrev pub parts_front : ℕ → Option Begun → Opening → Front
parts_front max begun o = unless_breach (breach max begun o) (body_front begun o.first o.size o.key o.payload o.rest)

-- with nothing behind the parts that are there, only a breach is told
more_yields : (max n : ℕ) (begun : Option Begun) (o : Opening) → Yields max n (unless_breach (breach max begun o) more)
more_yields max n begun o = unless_yields max n (part_is o.first (refuses_first begun)) (parts_are o.first o.second refuses_second) (part_is o.size (nat_le (2 ^ 63)))
    (parts_are o.first o.size (is_over max begun)) more (λ _ _. tt)

keyed_yields : (max n : ℕ) (begun : Option Begun) (first second size : ℕ) (octets rest : List ℕ) (key : Option (List ℕ × List ℕ)) → length rest < n → Leaves (length rest) key
    → size_at second octets ≡ Some (size, rest) → Yields max n (parts_front max begun (with_key first second size key))
keyed_yields max n begun first second size octets rest None h l sized = more_yields max n begun (with_key first second size None)
keyed_yields max n begun first second size octets rest (Some (key, behind)) h l sized =
    unless_yields max n (refuses_first begun first) (refuses_second first second) (nat_le (2 ^ 63) size) (is_over max begun first size) _
    (λ fine fits.
    frame_yields max n size begun (is_final first) (opcode_of first) (length (take size behind) == size) (unmasked key 0 (take size behind)) (drop size behind)
    (omega (arith, length-drop size behind)) (omega (arith, length-unmasked key 0 (take size behind), length-take size behind)) fits
    (λ control. let s = control_short first second octets fine control in let low = s.0 in omega (arith, ap size_part (sym s.1 ∙ sized))))

sized_yields : (max n : ℕ) (begun : Option Begun) (first second : ℕ) (octets : List ℕ) (size : Option (ℕ × List ℕ)) → length octets < n → Leaves (length octets) size
    → size_at second octets ≡ size → Yields max n (parts_front max begun (with_size first second size))
sized_yields max n begun first second octets None h l sized = more_yields max n begun (with_size first second None)
sized_yields max n begun first second octets (Some (size, rest)) h l sized =
    keyed_yields max n begun first second size octets rest (key_at second rest) (omega arith) (front_leaves (cond (is_masked second) 4 0) rest) sized

pub front_yields : (max : ℕ) (begun : Option Begun) (octets : List ℕ) → Yields max (length octets) (front_at max begun octets)
front_yields max begun [] = tt
front_yields max begun (first ∷ []) = more_yields max 1 begun (opening (first ∷ []))
front_yields max begun (first ∷ second ∷ octets) =
    sized_yields max (suc (suc (length octets))) begun first second octets (size_at second octets) (omega arith) (size_leaves second octets) refl

abbrev pub Shorter : ℕ → Front → Type 0
Shorter n more = Unit {0}
Shorter n (ends event) = Unit {0}
Shorter n (opens begun rest) = length rest < n
Shorter n (gives event begun rest) = length rest < n

shorter : (max n : ℕ) (front : Front) → Yields max n front → Shorter n front
shorter max n more y = tt
shorter max n (ends event) y = tt
shorter max n (opens begun rest) y = y
shorter max n (gives event begun rest) y = y.0

pub front_shorter : (max : ℕ) (begun : Option Begun) (octets : List ℕ) → Shorter (length octets) (front_at max begun octets)
front_shorter max begun octets = shorter max (length octets) (front_at max begun octets) (front_yields max begun octets)

-- ---- the bound

-- two ways to read what follows that agree on what is shorter
events_same : (n : ℕ) (one two : Option Begun → List ℕ → List Event) → ((begun : Option Begun) (octets : List ℕ) → length octets < n → one begun octets ≡ two begun octets)
    → (front : Front) → Shorter n front → events_from one front ≡ events_from two front
events_same n one two same more h = refl
events_same n one two same (ends event) h = refl
events_same n one two same (opens begun rest) h = same (Some begun) rest h
events_same n one two same (gives event begun rest) h = ap (λ (events : List Event). event ∷ events) (same begun rest h)

none_read : (count max : ℕ) (begun : Option Begun) → reads_within count max begun [] ≡ []
unfolding reads_within
none_read zero max begun = refl
none_read (suc count) max begun = refl

-- a bound from the length on gives the same events
pub reads_within_any : (one two max : ℕ) (begun : Option Begun) (octets : List ℕ) → length octets ≤ one → length octets ≤ two → reads_within one max begun octets ≡ reads_within two max begun octets
unfolding reads_within
reads_within_any one two max begun [] p q = none_read one max begun ∙ sym (none_read two max begun)
reads_within_any zero two max begun (first ∷ octets) p q = absurd (omega arith)
reads_within_any (suc one) zero max begun (first ∷ octets) p q = absurd (omega arith)
reads_within_any (suc one) (suc two) max begun (first ∷ octets) p q =
    events_same (suc (length octets)) (reads_within one max) (reads_within two max)
    (λ still rest lt. reads_within_any one two max still rest (omega arith) (omega arith))
    (front_at max begun (first ∷ octets)) (front_shorter max begun (first ∷ octets))

-- the reading without its bound
pub reads_is : (max : ℕ) (begun : Option Begun) (octets : List ℕ) → reads max begun octets ≡ events_from (reads max) (front_at max begun octets)
unfolding reads reads_within
reads_is max begun [] = refl
reads_is max begun (first ∷ octets) =
    events_same (suc (length octets)) (reads_within (length octets) max) (reads max)
    (λ still rest lt. reads_within_any (length octets) (length rest) max still rest (omega arith) (omega arith))
    (front_at max begun (first ∷ octets)) (front_shorter max begun (first ∷ octets))

-- What holds of no events, of one alone that can be told, and of one that is not the last before events of which it holds,
-- holds of each reading.
pub reads_by : (P : List Event → Type 0) (max : ℕ) → P [] → ((event : Event) → CanBeTold max event → P (event ∷ []))
    → ((event : Event) (events : List Event) → is_last event ≡ false → CanBeTold max event → P events → P (event ∷ events)) → (begun : Option Begun) (octets : List ℕ) → P (reads max begun octets)
reads_by P max none one next begun octets = shorter_than (suc (length octets)) begun octets (omega arith) where
  by_front : (n : ℕ) → ((begun : Option Begun) (octets : List ℕ) → length octets < n → P (reads max begun octets)) → (front : Front) → Yields max n front → P (events_from (reads max) front)
  by_front n below more y = none
  by_front n below (ends event) y = one event y
  by_front n below (opens begun rest) y = below (Some begun) rest y
  by_front n below (gives event begun rest) y = next event (reads max begun rest) y.1 y.2 (below begun rest y.0)

  shorter_than : (n : ℕ) (begun : Option Begun) (octets : List ℕ) → length octets < n → P (reads max begun octets)
  shorter_than zero begun octets p = absurd (omega arith)
  shorter_than (suc n) begun octets p = subst P (sym (reads_is max begun octets))
      (by_front (length octets) (λ still rest lt. shorter_than n still rest (omega arith)) (front_at max begun octets) (front_yields max begun octets))

-- what was read before, and the front that comes next
pub at_front : (max : ℕ) (begun : Option Begun) (rest : List ℕ) (events total : List Event) (front : Front) → front ≡ front_at max begun rest
    → events ++ reads max begun rest ≡ total → events ++ events_from (reads max) front ≡ total
at_front max begun rest events total front is so_far = ap (λ f. events ++ events_from (reads max) f) is ∙ ap (λ (es : List Event). events ++ es) (sym (reads_is max begun rest)) ∙ so_far

pub at_more : (max : ℕ) (begun : Option Begun) (rest : List ℕ) (events total : List Event) → more ≡ front_at max begun rest
    → events ++ reads max begun rest ≡ total → events ≡ total
at_more max begun rest events total is so_far = sym (append-nil events) ∙ at_front max begun rest events total more is so_far

pub at_opens : (max : ℕ) (begun : Option Begun) (rest after : List ℕ) (events total : List Event) (new : Begun) → opens new after ≡ front_at max begun rest
    → events ++ reads max begun rest ≡ total → events ++ reads max (Some new) after ≡ total
at_opens max begun rest after events total new is so_far = at_front max begun rest events total (opens new after) is so_far

pub at_gives : (max : ℕ) (begun still : Option Begun) (rest after : List ℕ) (events total : List Event) (event : Event) → gives event still after ≡ front_at max begun rest
    → events ++ reads max begun rest ≡ total → (events ++ event ∷ []) ++ reads max still after ≡ total
at_gives max begun still rest after events total event is so_far = append_assoc events (event ∷ []) (reads max still after) ∙ at_front max begun rest events total (gives event still after) is so_far

pub opens_shorter : (max : ℕ) (begun : Option Begun) (rest after : List ℕ) (new : Begun) → opens new after ≡ front_at max begun rest → length after < length rest
opens_shorter max begun rest after new is = subst (Shorter (length rest)) (sym is) (front_shorter max begun rest)

pub gives_shorter : (max : ℕ) (begun still : Option Begun) (rest after : List ℕ) (event : Event) → gives event still after ≡ front_at max begun rest → length after < length rest
gives_shorter max begun still rest after event is = subst (Shorter (length rest)) (sym is) (front_shorter max begun rest)
