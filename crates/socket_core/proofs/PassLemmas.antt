-- What a step of a socket does, by what becomes of its octets.
use Rattle.socket_core.proofs.Below.{◌≡◌, ◌≢◌, ◌<◌, ◌≤◌, ◌+◌, ◌-◌, ◌^◌, min, max, ℕ, List, [], ◌∷◌, ◌++◌, Option, Some, Bool, true, false, nat_eq, length, refl, sym, ap, ◌∙◌, subst, append-nil, arith, nat_tests, NoteValue, IsNoted, NetState, Kept, Clear, Backlog, Dropped, Failed, Hands, HandsOver, TellsRing, OffersNoted, PassesOctets, Entry, RingValue, WritesAreNoted, drops_in, is_drop, joined, list_all, is_sending, short_dropped, others_dropped, moves_drop, moves_pop, moves_then, up_by_one, writes_more, split_told, ◌||◌, ◌==◌, if◌then◌else◌, nat_lt, length-append, ConfigValue, IsPuttable, octets_of, header, opcode_number, size_octets, to_be_bytes, w16, w64, Begins, Text, Binary, Puttable, Reply, Spelled, Frame}
use Rattle.ws_kinds.specs.NoteValue as note
use Rattle.hub_lines.specs.Told.{writes}
use Rattle.socket_core.proofs.OfferLemmas.{one_noted}
use Rattle.socket_core.proofs.HandLemmas.{net_same, same_offers}

undropped_none : (k : Kept) → is_drop k ≡ false → 0 ≡ drops_in k
undropped_none Clear e = refl
undropped_none (Backlog held) e = refl
undropped_none (Dropped held) e = absurd (cc)
undropped_none Failed e = refl

-- an answer that is right for every limit tells of no drop
pub undropped_of : (k : Kept) (ring : List ℕ) → ((limit : ℕ) → TellsRing limit k ring) → is_drop k ≡ false
undropped_of Clear ring tells = refl
undropped_of (Backlog held) ring tells = refl
undropped_of (Dropped held) ring tells = absurd (let less = (tells held).0 in omega arith)
undropped_of Failed ring tells = refl

offers_as : (k : Kept) (c : ℕ) (on nn : NetState) (t t' : Option (List NoteValue)) → is_drop k ≡ false → OffersNoted Clear c on nn t t' → OffersNoted k c on nn t t'
offers_as k c on nn t t' e offers = record { notes = offers.notes; own = offers.own; dropped = offers.dropped ∙ undropped_none k e; told = offers.told; wrote = offers.wrote; taken = offers.taken }

pub length_one : (o : List ℕ) → length (joined (o ∷ [])) ≡ length o
length_one o = ap length (append-nil o)

-- what is held back was offered
pub passes_left : (c l : ℕ) (k : Kept) (old : Entry) (left : List ℕ) (on nn : NetState) (t t' : Option (List NoteValue)) → old.numbered < 2 ^ 64 → is_drop k ≡ false → TellsRing l k left
    → Hands c k [] old.ring left on nn t t' → PassesOctets c l false [] k old (record old { ring = left }) on nn t t'
passes_left c l k old left on nn t t' few undropped tells hands = record {
  moves = λ ok. hands.moves ok l old.numbered;
  front = λ failed is pending items stands. hands.front failed (record { numbered = old.numbered; ring = old.ring; cork = []; pending = pending }) refl is items stands;
  others = hands.others;
  offers = offers_as k c on nn t t' undropped hands.offers;
  short = hands.short;
  waits = hands.waits;
  bound = hands.bound;
  limited = λ e. absurd (let z : false ≡ true = e in cc);
  kept = tells;
  failed = hands.failed;
  net = hands.net;
  numbered = omega arith;
  conn_is = refl;
  config = refl;
  phase = refl;
  quiet = refl;
}

-- nothing is held back, and nothing was offered
pub passes_none : (c l : ℕ) (old : Entry) (n : NetState) (t : Option (List NoteValue)) → old.numbered < 2 ^ 64 → old.ring ≡ [] → PassesOctets c l false [] Clear old old n n t t
passes_none c l old n t few empty = record {
  moves = λ ok. record { stands = λ p items s. s; fair = λ p items can s f. f };
  front = λ failed. absurd (let z : Clear ≡ Failed = failed in cc);
  others = record { stands = λ d ne held items s. s; fair = λ d ne limit held items f. f };
  offers = same_offers c n t;
  short = λ _ was. was;
  waits = λ was. was;
  bound = omega arith;
  limited = λ e. absurd (let z : false ≡ true = e in cc);
  kept = empty;
  failed = record { faults = omega arith; broken = λ _. refl };
  net = net_same c n;
  numbered = omega arith;
  conn_is = refl;
  config = refl;
  phase = refl;
  quiet = refl;
}

most_after : (left ring most octets all : ℕ) → left ≤ ring + octets → ring ≤ most → all ≡ octets → left ≤ max ring (most + all)
most_after left ring most octets all bound under e = omega arith

-- an item was offered, or put behind what is held back
pub passes_put : (c l n : ℕ) (q : Bool) (k : Kept) (octets : List ℕ) (old : Entry) (ring new : RingValue) (on nn : NetState) (t t' : Option (List NoteValue)) → old.ring ≡ ring.octets → n ≡ min (old.numbered + 1) (2 ^ 64 - 1)
    → (q ≡ true → length old.ring ≤ l) → HandsOver c k octets ring new on nn t t' → PassesOctets c l q (octets ∷ []) k old (record old { numbered = n; ring = new.octets }) on nn t t'
passes_put c l n q k octets old ring new on nn t t' is up under over =
    let hands : Hands c k octets old.ring new.octets on nn t t' = subst (λ (z : List ℕ). Hands c k octets z new.octets on nn t t') (sym is) over.hands in
    let one = length_one octets in
    record {
      moves = λ ok. moves_then (moves_pop c l old.numbered n old.ring [] octets on t q (up_by_one old.numbered n up)) (hands.moves ok l n);
      front = λ failed counted pending items stands. hands.front failed (record { numbered = old.numbered; ring = old.ring; cork = []; pending = octets ∷ pending }) refl counted items stands;
      others = hands.others;
      offers = offers_as k c on nn t t' (undropped_of k new.octets over.kept) hands.offers;
      short = hands.short;
      waits = hands.waits;
      bound = let b = hands.bound in omega arith;
      limited = λ may. most_after (length new.octets) (length old.ring) l (length octets) (length (joined (octets ∷ []))) hands.bound (under may) one;
      kept = over.kept l;
      failed = hands.failed;
      net = hands.net;
      numbered = up;
      conn_is = refl;
      config = refl;
      phase = refl;
      quiet = refl;
    }

dropped_own : (c i h : ℕ) → list_all (is_sending c) (note.dropped c i h ∷ []) ≡ true
dropped_own c i h = grind (arith, nat_tests)

dropped_one : (c i h : ℕ) (n : NetState) (t t' : Option (List NoteValue)) → IsNoted t (note.dropped c i h) t' → OffersNoted (Dropped h) c n n t t'
dropped_one c i h n t t' told = record {
  notes = note.dropped c i h ∷ [];
  own = dropped_own c i h;
  dropped = grind (arith, nat_tests);
  told = one_noted t t' (note.dropped c i h) told;
  wrote = λ tells. sym (append-nil (n.wrote c));
  taken = λ tells. let a = length (n.taken c) in omega arith;
}

-- an item was dropped
pub passes_dropped : (c l n h : ℕ) (q : Bool) (octets : List ℕ) (old : Entry) (g : NetState) (t t' : Option (List NoteValue)) → q ≡ true → n ≡ min (old.numbered + 1) (2 ^ 64 - 1)
    → h ≡ length old.ring → l < length old.ring → IsNoted t (note.dropped c old.numbered h) t' → PassesOctets c l q (octets ∷ []) (Dropped h) old (record old { numbered = n }) g g t t'
passes_dropped c l n h q octets old g t t' may up held over told =
    subst (λ (z : Bool). PassesOctets c l z (octets ∷ []) (Dropped h) old (record old { numbered = n }) g g t t') (sym may) (record {
      moves = λ _. moves_drop c l old.numbered n h old.ring octets g t t' (up_by_one old.numbered n up) told held over;
      front = λ failed. absurd (let z : Dropped h ≡ Failed = failed in cc);
      others = others_dropped c old.numbered h g t t' told;
      offers = dropped_one c old.numbered h g t t' told;
      short = λ _ s. short_dropped c old.numbered h old.ring t t' told s;
      waits = λ was some. was some;
      bound = let a = length old.ring in omega arith;
      limited = λ _. let a = length old.ring in omega arith;
      kept = (let a = over in omega arith, held);
      failed = record { faults = omega arith; broken = λ _. refl };
      net = net_same c g;
      numbered = up;
      conn_is = refl;
      config = refl;
      phase = refl;
      quiet = refl;
    })

-- a drop is no write
pub noted_dropped : (c i h : ℕ) (n : NetState) (t t' : Option (List NoteValue)) → IsNoted t (note.dropped c i h) t' → WritesAreNoted n t → WritesAreNoted n t'
noted_dropped c i h n t t' noted was told ns en d =
    let q = split_told t t' (note.dropped c i h) ns noted en in
    ap (writes d) q.2 ∙ writes_more d q.0 (note.dropped c i h) ∙ append-nil (writes d q.0) ∙ was told q.0 q.1 d

-- ---- how many octets an item has

few_of : (a b : Bool) (x y z : List ℕ) → length x ≤ 9 → length y ≤ 9 → length z ≤ 9 → length (if a then x else (if b then y else z)) ≤ 9
few_of true b x y z p q r = p
few_of false true x y z p q r = q
few_of false false x y z p q r = r

size_few : (n : ℕ) → length (size_octets 0 n) ≤ 9
size_few n = few_of (nat_lt n 126) (nat_lt n (2 ^ 16)) ((0 + n) ∷ []) ((0 + 126) ∷ to_be_bytes w16 n) ((0 + 127) ∷ to_be_bytes w64 n)
    (omega arith) (let e : length (to_be_bytes w16 n) ≡ 2 = refl in omega arith) (let e : length (to_be_bytes w64 n) ≡ 8 = refl in omega arith)

-- an item that may be put has few octets
pub octets_few : (g : ConfigValue) (n : ℕ) (item : Puttable) → IsPuttable g n item → length (octets_of item) ≤ g.max_message + 256
octets_few g n (Reply text) p = let a = p.1 in omega arith
octets_few g n (Spelled frame) p = let a = p.1 in omega arith
octets_few g n (Frame opcode payload) p =
    let a = length-append (header opcode (length payload.now)) payload.now in let b = size_few (length payload.now) in
    let c : length payload.now ≤ max g.max_message 125 = longest g.max_message (length payload.now) (opcode == opcode_number (Begins Text) || opcode == opcode_number (Begins Binary)) p.1 in
    omega arith
  where
    longest : (m l : ℕ) (b : Bool) → l ≤ (if b then m else 125) → l ≤ max m 125
    longest m l true h = omega arith
    longest m l false h = omega arith
