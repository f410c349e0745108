-- The events of a front of some octets are a front of their events.
use Rattle.wire_meaning.proofs.Below.{not, ◌==◌, ◌≡◌, ℕ, zero, suc, ◌+◌, ◌-◌, ◌^◌, ◌<◌, ◌≤◌, Bool, true, false, cond, nat_le, ◌&&◌, List, [], ◌∷◌, ◌++◌, length, take, drop, Option, Some, None, refl, sym, ap, subst, ◌∙◌, append_assoc, arith, inl, inr, length-append, Width, w16, w64, byte_len, from_be_bytes, is_utf8, cases_lt, le-ltb, lt-ltb, ne_eqb, take-append-le, drop-append-le, take_all, take-append-add, Kind, Text, Binary, Opcode, Continuation, Begins, Close, Ping, Pong, Reserved, unmasked, Opening, is_final, opcode_of, is_masked, seven_bits, octets_at, number_at, size_at, key_at, with_key, with_size, is_text_front, Event, message, failed, Begun, Front, more, ends, opens, gives, is_text, refuses_first, refuses_second, is_over, part_is, breach, data_front, frame_front, body_front, unless_breach, front_at, events_from, reads}
use Rattle.wire_meaning.proofs.TextFront.{not_front}
use Rattle.wire_meaning.proofs.MaskLemmas.{unmasked-append}
use Rattle.wire_meaning.proofs.ReadingLemmas.{Shorter, front_shorter, reads_is, parts_front}

-- what a front is when ys come behind its octets
abbrev pub Extends : Front → List ℕ → Front → Type 0
Extends more ys front = Unit {0}
Extends (ends event) ys front = front ≡ ends event
Extends (opens begun rest) ys front = front ≡ opens begun (rest ++ ys)
Extends (gives event begun rest) ys front = front ≡ gives event begun (rest ++ ys)

-- ---- the frame's body

data_rest : (final whole text front utf8 : Bool) (kind : Kind) (all rest ys : List ℕ)
    → Extends (cond (text && not front) (ends (failed 1007)) (cond (not whole) more (cond (not final) (opens (record { kind = kind; octets = all }) rest) (cond (text && not utf8) (ends (failed 1007)) (gives (message kind all) None rest))))) ys
    (cond (text && not front) (ends (failed 1007)) (cond (not whole) more (cond (not final) (opens (record { kind = kind; octets = all }) (rest ++ ys)) (cond (text && not utf8) (ends (failed 1007)) (gives (message kind all) None (rest ++ ys))))))
data_rest final whole true false utf8 kind all rest ys = refl
data_rest final false true true utf8 kind all rest ys = tt
data_rest false true true true utf8 kind all rest ys = refl
data_rest true true true true false kind all rest ys = refl
data_rest true true true true true kind all rest ys = refl
data_rest final false false front utf8 kind all rest ys = tt
data_rest false true false front utf8 kind all rest ys = refl
data_rest true true false front utf8 kind all rest ys = refl

data_extends : (final whole : Bool) (kind : Kind) (all rest ys : List ℕ) → Extends (data_front final whole kind all rest) ys (data_front final whole kind all (rest ++ ys))
data_extends final whole kind all rest ys = data_rest final whole (is_text kind) (is_text_front all) (is_utf8 all) kind all rest ys

-- more octets behind the frame
frame_extends : (begun : Option Begun) (final : Bool) (opcode : Opcode) (whole : Bool) (payload rest ys : List ℕ)
    → Extends (frame_front begun final opcode whole payload rest) ys (frame_front begun final opcode whole payload (rest ++ ys))
frame_extends (Some begun) final Continuation whole payload rest ys = data_extends final whole begun.kind (begun.octets ++ payload) rest ys
frame_extends None final Continuation whole payload rest ys = refl
frame_extends (Some begun) final (Begins kind) whole payload rest ys = refl
frame_extends None final (Begins kind) whole payload rest ys = data_extends final whole kind payload rest ys
frame_extends (Some begun) final Ping true payload rest ys = refl
frame_extends (Some begun) final Ping false payload rest ys = tt
frame_extends None final Ping true payload rest ys = refl
frame_extends None final Ping false payload rest ys = tt
frame_extends (Some begun) final Pong true payload rest ys = refl
frame_extends (Some begun) final Pong false payload rest ys = tt
frame_extends None final Pong true payload rest ys = refl
frame_extends None final Pong false payload rest ys = tt
frame_extends (Some begun) final Close true payload rest ys = refl
frame_extends (Some begun) final Close false payload rest ys = tt
frame_extends None final Close true payload rest ys = refl
frame_extends None final Close false payload rest ys = tt
frame_extends (Some begun) final Reserved whole payload rest ys = refl
frame_extends None final Reserved whole payload rest ys = refl

-- more payload octets of a frame that is not whole
data_more : (final whole : Bool) (kind : Kind) (all behind ys rest : List ℕ) (front : Bool) → is_text_front all ≡ front
    → Extends (cond (is_text kind && not front) (ends (failed 1007)) more) ys (data_front final whole kind (all ++ behind) rest)
data_more final whole Text all behind ys rest false e = rw (not_front all behind e) refl
data_more final whole Text all behind ys rest true e = tt
data_more final whole Binary all behind ys rest front e = tt

data_grows : (final whole : Bool) (kind : Kind) (all behind ys rest rest' : List ℕ) → Extends (data_front final false kind all rest') ys (data_front final whole kind (all ++ behind) rest)
data_grows final whole kind all behind ys rest rest' = data_more final whole kind all behind ys rest (is_text_front all) refl

frame_grows : (begun : Option Begun) (final : Bool) (opcode : Opcode) (whole : Bool) (payload behind ys rest rest' : List ℕ)
    → Extends (frame_front begun final opcode false payload rest') ys (frame_front begun final opcode whole (payload ++ behind) rest)
frame_grows (Some begun) final Continuation whole payload behind ys rest rest' =
    subst (λ (all : List ℕ). Extends (data_front final false begun.kind (begun.octets ++ payload) rest') ys (data_front final whole begun.kind all rest))
    (append_assoc begun.octets payload behind) (data_grows final whole begun.kind (begun.octets ++ payload) behind ys rest rest')
frame_grows None final Continuation whole payload behind ys rest rest' = refl
frame_grows (Some begun) final (Begins kind) whole payload behind ys rest rest' = refl
frame_grows None final (Begins kind) whole payload behind ys rest rest' = data_grows final whole kind payload behind ys rest rest'
frame_grows (Some begun) final Ping whole payload behind ys rest rest' = tt
frame_grows None final Ping whole payload behind ys rest rest' = tt
frame_grows (Some begun) final Pong whole payload behind ys rest rest' = tt
frame_grows None final Pong whole payload behind ys rest rest' = tt
frame_grows (Some begun) final Close whole payload behind ys rest rest' = tt
frame_grows None final Close whole payload behind ys rest rest' = tt
frame_grows (Some begun) final Reserved whole payload behind ys rest rest' = refl
frame_grows None final Reserved whole payload behind ys rest rest' = refl

-- ---- the parts

-- a part that is there stays, and what follows it grows
abbrev pub Grows : {A : Type 0} → Option (A × List ℕ) → List ℕ → Option (A × List ℕ) → Type 0
Grows None ys part = Unit {0}
Grows (Some (x, rest)) ys part = part ≡ Some (x, rest ++ ys)

pub front_grows : (count : ℕ) (octets ys : List ℕ) → Grows (octets_at count octets) ys (octets_at count (octets ++ ys))
front_grows count octets ys = elim (cases_lt (length octets) count) [
  | inl short ↦
      let absent : octets_at count octets ≡ None = rw (lt-ltb (length octets) count short) refl in
      subst (λ part. Grows part ys (octets_at count (octets ++ ys))) (sym absent) tt
  | inr long ↦
      let there : octets_at count octets ≡ Some (take count octets, drop count octets) = rw (le-ltb (length octets) count long) refl in
      let within : count ≤ length (octets ++ ys) = omega (arith, length-append octets ys) in
      let then_there : octets_at count (octets ++ ys) ≡ Some (take count octets, drop count octets ++ ys) =
      rw (le-ltb (length (octets ++ ys)) count within, take-append-le count octets ys long, drop-append-le count octets ys long) refl in
      subst (λ part. Grows part ys (octets_at count (octets ++ ys))) (sym there) then_there
]

number_grows : (w : Width) (octets ys : List ℕ) → Grows (number_at w octets) ys (number_at w (octets ++ ys))
number_grows w octets ys = elim (cases_lt (length octets) (byte_len w)) [
  | inl short ↦
      let absent : number_at w octets ≡ None = rw (lt-ltb (length octets) (byte_len w) short) refl in
      subst (λ part. Grows part ys (number_at w (octets ++ ys))) (sym absent) tt
  | inr long ↦
      let there : number_at w octets ≡ Some (from_be_bytes w (take (byte_len w) octets), drop (byte_len w) octets) = rw (le-ltb (length octets) (byte_len w) long) refl in
      let within : byte_len w ≤ length (octets ++ ys) = omega (arith, length-append octets ys) in
      let then_there : number_at w (octets ++ ys) ≡ Some (from_be_bytes w (take (byte_len w) octets), drop (byte_len w) octets ++ ys) =
      rw (le-ltb (length (octets ++ ys)) (byte_len w) within, take-append-le (byte_len w) octets ys long, drop-append-le (byte_len w) octets ys long) refl in
      subst (λ part. Grows part ys (number_at w (octets ++ ys))) (sym there) then_there
]

chosen_grows : (one two : Bool) (seven : ℕ) (octets ys : List ℕ) → Grows (cond one (number_at w16 octets) (cond two (number_at w64 octets) (Some (seven, octets)))) ys
    (cond one (number_at w16 (octets ++ ys)) (cond two (number_at w64 (octets ++ ys)) (Some (seven, octets ++ ys))))
chosen_grows true two seven octets ys = number_grows w16 octets ys
chosen_grows false true seven octets ys = number_grows w64 octets ys
chosen_grows false false seven octets ys = refl

pub size_grows : (second : ℕ) (octets ys : List ℕ) → Grows (size_at second octets) ys (size_at second (octets ++ ys))
size_grows second octets ys = chosen_grows (seven_bits second == 126) (seven_bits second == 127) (seven_bits second) octets ys

-- ---- the breach, by what its rows say

abbrev pub code_of : Bool → Bool → Option ℕ → (ℕ → Bool) → (ℕ → Bool) → Option ℕ
code_of one two size top over =
    cond one (Some 1002) (cond two (Some 1002) (cond (part_is size top) (Some 1002) (cond (part_is size over) (Some 1009) None)))

abbrev pub size_of : Option (ℕ × List ℕ) → Option ℕ
size_of None = None
size_of (Some part) = Some part.0

abbrev pub code_at : ℕ → Option Begun → ℕ → ℕ → Option ℕ → Option ℕ
code_at max begun first second size = code_of (refuses_first begun first) (refuses_second first second) size (nat_le (2 ^ 63)) (is_over max begun first)

pub breach_keyed : (max : ℕ) (begun : Option Begun) (first second size : ℕ) (key : Option (List ℕ × List ℕ)) → breach max begun (with_key first second size key) ≡ code_at max begun first second (Some size)
breach_keyed max begun first second size None = refl
breach_keyed max begun first second size (Some (key, octets)) = refl

pub breach_sized : (max : ℕ) (begun : Option Begun) (first second : ℕ) (size : Option (ℕ × List ℕ)) → breach max begun (with_size first second size) ≡ code_at max begun first second (size_of size)
breach_sized max begun first second None = refl
breach_sized max begun first second (Some (size, octets)) = breach_keyed max begun first second size (key_at second octets)

-- the front that these parts give
abbrev body_of : Option Begun → Opening → Front
body_of begun o = body_front begun o.first o.size o.key o.payload o.rest

code_extends : (one two : Bool) (top over : ℕ → Bool) (size : Option ℕ) (ys : List ℕ) (front : Front) → Extends (unless_breach (code_of one two None top over) more) ys (unless_breach (code_of one two size top over) front)
code_extends true two top over size ys front = refl
code_extends false true top over size ys front = refl
code_extends false false top over size ys front = tt

same_code : (code : Option ℕ) (ys : List ℕ) (front front' : Front) → Extends front ys front' → Extends (unless_breach code front) ys (unless_breach code front')
same_code (Some code) ys front front' h = refl
same_code None ys front front' h = h

-- the body of a frame whose key is whole
keyed_extends : (begun : Option Begun) (first second size : ℕ) (key octets ys : List ℕ)
    → Extends (body_of begun (with_key first second size (Some (key, octets)))) ys (body_of begun (with_key first second size (Some (key, octets ++ ys))))
keyed_extends begun first second size key octets ys = elim (cases_lt (length octets) size) [
  | inl short ↦
      let all : take size octets ≡ octets = take_all size octets (omega arith) in
      let part : List ℕ = take (size - length octets) ys in
      let front_part : take size (octets ++ ys) ≡ octets ++ take (size - length octets) ys =
      (let n : size ≡ length octets + (size - length octets) = omega arith in ap (λ m. take m (octets ++ ys)) n ∙ take-append-add octets ys (size - length octets)) in
      let not_whole : (length (take size octets) == size) ≡ false = ap (λ (l : List ℕ). length l == size) all ∙ ne_eqb (length octets) size (omega arith) in
      let payload : unmasked key 0 (take size octets) ≡ unmasked key 0 octets = ap (unmasked key 0) all in
      let payload' : unmasked key 0 (take size (octets ++ ys)) ≡ unmasked key 0 octets ++ unmasked key (length octets) (take (size - length octets) ys) =
      ap (unmasked key 0) front_part ∙ unmasked-append key 0 octets (take (size - length octets) ys) ∙ ap (λ n. unmasked key 0 octets ++ unmasked key n (take (size - length octets) ys)) (omega arith) in
      rw (not_whole, payload, payload')
      (frame_grows begun (is_final first) (opcode_of first) (length (take size (octets ++ ys)) == size) (unmasked key 0 octets) (unmasked key (length octets) (take (size - length octets) ys)) ys (drop size (octets ++ ys)) (drop size octets))
  | inr long ↦
      rw (take-append-le size octets ys long, drop-append-le size octets ys long)
      (frame_extends begun (is_final first) (opcode_of first) (length (take size octets) == size) (unmasked key 0 (take size octets)) (drop size octets) ys)
]

key_extends : (begun : Option Begun) (first second size : ℕ) (ys : List ℕ) (key key' : Option (List ℕ × List ℕ)) → Grows key ys key'
    → Extends (body_of begun (with_key first second size key)) ys (body_of begun (with_key first second size key'))
key_extends begun first second size ys None key' h = tt
key_extends begun first second size ys (Some (key, octets)) key' h =
    subst (λ part. Extends (body_of begun (with_key first second size (Some (key, octets)))) ys (body_of begun (with_key first second size part))) (sym h)
    (keyed_extends begun first second size key octets ys)

size_extends : (max : ℕ) (begun : Option Begun) (first second : ℕ) (ys : List ℕ) (size size' : Option (ℕ × List ℕ)) → Grows size ys size'
    → Extends (parts_front max begun (with_size first second size)) ys (parts_front max begun (with_size first second size'))
size_extends max begun first second ys None size' h =
    rw (breach_sized max begun first second size')
    (code_extends (refuses_first begun first) (refuses_second first second) (nat_le (2 ^ 63)) (is_over max begun first) (size_of size') ys (body_of begun (with_size first second size')))
size_extends max begun first second ys (Some (size, octets)) size' h =
    subst (λ part. Extends (parts_front max begun (with_size first second (Some (size, octets)))) ys (parts_front max begun (with_size first second part))) (sym h)
    (rw (breach_keyed max begun first second size (key_at second octets), breach_keyed max begun first second size (key_at second (octets ++ ys)))
    (same_code (code_at max begun first second (Some size)) ys _ _
    (key_extends begun first second size ys (key_at second octets) (key_at second (octets ++ ys)) (front_grows (cond (is_masked second) 4 0) octets ys))))

-- one octet alone
first_extends : (one two : Bool) (top over : ℕ → Bool) (size : Option ℕ) (ys : List ℕ) (front : Front) → Extends (unless_breach (cond one (Some 1002) None) more) ys (unless_breach (code_of one two size top over) front)
first_extends true two top over size ys front = refl
first_extends false two top over size ys front = tt

pub front_extends : (max : ℕ) (begun : Option Begun) (xs ys : List ℕ) → Extends (front_at max begun xs) ys (front_at max begun (xs ++ ys))
front_extends max begun [] ys = tt
front_extends max begun (first ∷ []) [] = one_alone (refuses_first begun first) where
  one_alone : (one : Bool) → Extends (unless_breach (cond one (Some 1002) None) more) [] (unless_breach (cond one (Some 1002) None) more)
  one_alone true = refl
  one_alone false = tt
front_extends max begun (first ∷ []) (second ∷ ys) =
    rw (breach_sized max begun first second (size_at second ys))
    (first_extends (refuses_first begun first) (refuses_second first second) (nat_le (2 ^ 63)) (is_over max begun first) (size_of (size_at second ys)) (second ∷ ys) (body_of begun (with_size first second (size_at second ys))))
front_extends max begun (first ∷ second ∷ xs) ys =
    size_extends max begun first second ys (size_at second xs) (size_at second (xs ++ ys)) (size_grows second xs ys)

-- ---- the reading

-- the events of ys behind xs are those of xs and more
abbrev Continues : List Event → List Event → Type 0
Continues events total = (behind : List Event) × (total ≡ events ++ behind)

continues_cons : (event : Event) (events total : List Event) → Continues events total → Continues (event ∷ events) (event ∷ total)
continues_cons event events total c = (c.0, ap (λ (es : List Event). event ∷ es) c.1)

continues_from : (max n : ℕ) (ys : List ℕ) → ((begun : Option Begun) (xs : List ℕ) → length xs < n → Continues (reads max begun xs) (reads max begun (xs ++ ys)))
    → (front front' : Front) → Shorter n front → Extends front ys front' → Continues (events_from (reads max) front) (events_from (reads max) front')
continues_from max n ys below more front' s h = (events_from (reads max) front', refl)
continues_from max n ys below (ends event) front' s h = ([], ap (events_from (reads max)) h)
continues_from max n ys below (opens begun rest) front' s h =
    subst (Continues (reads max (Some begun) rest)) (sym (ap (events_from (reads max)) h)) (below (Some begun) rest s)
continues_from max n ys below (gives event begun rest) front' s h =
    subst (Continues (event ∷ reads max begun rest)) (sym (ap (events_from (reads max)) h)) (continues_cons event (reads max begun rest) (reads max begun (rest ++ ys)) (below begun rest s))

reads_continue : (n max : ℕ) (begun : Option Begun) (xs ys : List ℕ) → length xs < n → Continues (reads max begun xs) (reads max begun (xs ++ ys))
reads_continue zero max begun xs ys p = absurd (omega arith)
reads_continue (suc n) max begun xs ys p =
    rw (reads_is max begun xs, reads_is max begun (xs ++ ys))
    (continues_from max (length xs) ys (λ still rest lt. reads_continue n max still rest ys (omega arith)) (front_at max begun xs) (front_at max begun (xs ++ ys)) (front_shorter max begun xs) (front_extends max begun xs ys))

pub reading-append : (max : ℕ) (begun : Option Begun) (xs ys : List ℕ) → (behind : List Event) × (reads max begun (xs ++ ys) ≡ reads max begun xs ++ behind)
reading-append max begun xs ys = reads_continue (suc (length xs)) max begun xs ys (omega arith)
