-- A report is that of one list of notes and one list of links.
use Rattle.schedule_text.proofs.Below.{◌≡◌, ℕ, ◌/◌, ◌%◌, ◌^◌, ◌<◌, Bool, true, false, cond, eqb, ltb, List, [], ◌∷◌, ◌++◌, length, get_or, decimal, refl, sym, ap, ◌∙◌, append_assoc, arith, codes, if◌then◌else◌, digit_value, flat_map, list_all, AllByRecursion, bytes_eq, AllDigits, digits_value, and_parts, nat_tests, digits_decimal, digits_value-decimal, digit_from_value, NoteValue, turn, tick, accepted, busy, no_room, given, head, opened, message, ping_got, pong_got, peer_close, failed, took, dropped, unserved, pinged, told, closed, gone, Why, Left, hex, hex_digit, line, shown, pairs_at, AreOctets, IsNote, IsLink, IsOneToOne, Link, drained_word, kind_word, left_word, link_line, note_line, why_word}
use Rattle.ws_kinds.specs.declared.kind.Kind.TheVariants as kind
use Rattle.ws_kinds.specs.declared.note.Why.TheVariants as why
use Rattle.ws_kinds.specs.declared.note.Left.TheVariants as left
use Rattle.schedule_text.proofs.Numbers.{own}
use Rattle.schedule_text.proofs.Hex.{pair_again}
use Rattle.schedule_text.proofs.Followed.{clash}

-- ---- a line is taken apart

-- no space and no line feed
abbrev is_clean : List ℕ → Bool
is_clean part = list_all (λ octet. ltb 32 octet) part

abbrev push : ℕ → List (List ℕ) → List (List ℕ)
push octet [] = (octet ∷ []) ∷ []
push octet (part ∷ parts) = (octet ∷ part) ∷ parts

abbrev step : ℕ → List ℕ → List (List ℕ) × List ℕ → List (List ℕ) × List ℕ
step octet rest later = cond (eqb octet 10) ([] ∷ [], rest) (cond (eqb octet 32) ([] ∷ later.0, later.1) (push octet later.0, later.1))

-- the parts of the first line, and what follows it
abbrev split : List ℕ → List (List ℕ) × List ℕ
split [] = ([], [])
split (octet ∷ rest) = step octet rest (split rest)

no_end : (octet : ℕ) → ltb 32 octet ≡ true → eqb octet 10 ≡ false
no_end octet h = grind (arith, nat_tests)

no_space : (octet : ℕ) → ltb 32 octet ≡ true → eqb octet 32 ≡ false
no_space octet h = grind (arith, nat_tests)

step_clean : (octet : ℕ) (rest : List ℕ) (later : List (List ℕ) × List ℕ) → ltb 32 octet ≡ true → step octet rest later ≡ (push octet later.0, later.1)
step_clean octet rest later h = rw (no_end octet h, no_space octet h) refl

split_last : (part rest : List ℕ) → is_clean part ≡ true → split (part ++ (10 ∷ rest)) ≡ (part ∷ [], rest)
split_last [] rest h = refl
split_last (octet ∷ part) rest h =
    let clean = and_parts (ltb 32 octet) (is_clean part) h in
    step_clean octet (part ++ (10 ∷ rest)) (split (part ++ (10 ∷ rest))) clean.0 ∙ ap (λ (p : List (List ℕ) × List ℕ). (push octet p.0, p.1)) (split_last part rest clean.1)

with_part : List ℕ → List (List ℕ) × List ℕ → List (List ℕ) × List ℕ
with_part part later = (part ∷ later.0, later.1)

split_part : (part rest : List ℕ) → is_clean part ≡ true → split (part ++ (32 ∷ rest)) ≡ with_part part (split rest)
unfolding with_part
split_part [] rest h = refl
split_part (octet ∷ part) rest h =
    let clean = and_parts (ltb 32 octet) (is_clean part) h in
    step_clean octet (part ++ (32 ∷ rest)) (split (part ++ (32 ∷ rest))) clean.0 ∙ ap (λ (p : List (List ℕ) × List ℕ). (push octet p.0, p.1)) (split_part part rest clean.1)

are_clean : List (List ℕ) → Bool
are_clean parts = list_all is_clean parts

split_rest : (part : List ℕ) (parts : List (List ℕ)) (rest : List ℕ) → is_clean part ≡ true → are_clean parts ≡ true → split (line (part ∷ parts) ++ rest) ≡ (part ∷ parts, rest)
unfolding are_clean with_part
split_rest part [] rest h k = ap split (append_assoc part (10 ∷ []) rest) ∙ split_last part rest h
split_rest part (next ∷ parts) rest h k =
    let clean = and_parts (is_clean next) (are_clean parts) k in
    ap split (append_assoc part (32 ∷ line (next ∷ parts)) rest) ∙ split_part part (line (next ∷ parts) ++ rest) h ∙ ap (with_part part) (split_rest next parts rest clean.0 clean.1)

-- ---- numbers and octets

digit_clean : (octet : ℕ) → digit_value octet < 10 → ltb 32 octet ≡ true
digit_clean octet h = let r = digit_from_value octet h in grind (arith, nat_tests)

digits_clean : (digits : List ℕ) → AllDigits 10 digits → is_clean digits ≡ true
digits_clean [] h = refl
digits_clean (digit ∷ digits) h = rw (digit_clean digit h.0, digits_clean digits h.1) refl

decimal_clean : (n : ℕ) → n < 2 ^ 64 → is_clean (decimal n) ≡ true
decimal_clean n h = digits_clean (decimal n) (digits_decimal own n h)

hex_digit_clean : (n : ℕ) → ltb 32 (hex_digit n) ≡ true
hex_digit_clean n = grind (arith, nat_tests)

hex_clean : (octets : List ℕ) → is_clean (hex octets) ≡ true
hex_clean [] = refl
hex_clean (octet ∷ octets) = rw (hex_digit_clean (octet / 16), hex_digit_clean (octet % 16), hex_clean octets) refl

shown_clean : (octets : List ℕ) → is_clean (shown octets) ≡ true
shown_clean [] = refl
shown_clean (octet ∷ octets) = hex_clean (octet ∷ octets)

number : List ℕ → ℕ
number digits = digits_value 10 digits

number_back : (n : ℕ) → n < 2 ^ 64 → number (decimal n) ≡ n
unfolding number
number_back n h = digits_value-decimal own n h

unshown : List ℕ → List ℕ
unshown [] = []
unshown (first ∷ []) = []
unshown (first ∷ second ∷ rest) = (pairs_at (first ∷ second ∷ rest)).0

pairs_back : (octets : List ℕ) → AreOctets octets → pairs_at (hex octets) ≡ (octets, [])
pairs_back [] h = refl
pairs_back (octet ∷ octets) h = rw (pair_again octet h.0, pairs_back octets h.1) refl

unshown_back : (octets : List ℕ) → AreOctets octets → unshown (shown octets) ≡ octets
unfolding unshown
unshown_back [] h = refl
unshown_back (octet ∷ octets) h = ap (λ (p : List ℕ × List ℕ). p.0) (pairs_back (octet ∷ octets) h)

-- ---- the parts of a note's line, and the note from them

parts_of : NoteValue → List (List ℕ)
parts_of turn = codes "turn" ∷ []
parts_of tick = codes "tick" ∷ []
parts_of (accepted conn) = codes "accept" ∷ decimal conn ∷ []
parts_of (busy conn) = codes "busy" ∷ decimal conn ∷ []
parts_of (no_room conn) = codes "noroom" ∷ decimal conn ∷ []
parts_of (given conn count) = codes "given" ∷ decimal conn ∷ decimal count ∷ []
parts_of (head conn status) = codes "head" ∷ decimal conn ∷ decimal status ∷ []
parts_of (opened conn route param) = codes "opened" ∷ decimal conn ∷ decimal route ∷ shown param ∷ []
parts_of (message conn kind body) = kind_word kind ∷ decimal conn ∷ shown body ∷ []
parts_of (ping_got conn body) = codes "ping" ∷ decimal conn ∷ shown body ∷ []
parts_of (pong_got conn body) = codes "pong" ∷ decimal conn ∷ shown body ∷ []
parts_of (peer_close conn code reason) = codes "peerclose" ∷ decimal conn ∷ decimal code ∷ shown reason ∷ []
parts_of (failed conn code) = codes "failed" ∷ decimal conn ∷ decimal code ∷ []
parts_of (took conn offered count) = codes "took" ∷ decimal conn ∷ decimal offered ∷ decimal count ∷ []
parts_of (dropped conn index held) = codes "dropped" ∷ decimal conn ∷ decimal index ∷ decimal held ∷ []
parts_of (unserved conn order why) = codes "unserved" ∷ decimal conn ∷ decimal order ∷ why_word why ∷ []
parts_of (pinged conn) = codes "pinged" ∷ decimal conn ∷ []
parts_of (told conn count drained) = codes "told" ∷ decimal conn ∷ decimal count ∷ drained_word drained ∷ []
parts_of (closed conn code reason) = codes "closed" ∷ decimal conn ∷ decimal code ∷ shown reason ∷ []
parts_of (gone conn left) = codes "gone" ∷ decimal conn ∷ left_word left ∷ []

why_of : List ℕ → Why
why_of word =
    if bytes_eq word (codes "absent") then why.Absent
    else if bytes_eq word (codes "notopen") then why.NotOpen
    else if bytes_eq word (codes "toobig") then why.TooBig
    else if bytes_eq word (codes "badtext") then why.BadText
    else if bytes_eq word (codes "badtopic") then why.BadTopic
    else if bytes_eq word (codes "forbidden") then why.Forbidden
    else if bytes_eq word (codes "toomany") then why.TooMany
    else if bytes_eq word (codes "badcode") then why.BadCode
    else why.Memory

why_back : (w : Why) → why_of (why_word w) ≡ w
unfolding why_of
why_back why.Absent = refl
why_back why.NotOpen = refl
why_back why.TooBig = refl
why_back why.BadText = refl
why_back why.BadTopic = refl
why_back why.Forbidden = refl
why_back why.TooMany = refl
why_back why.BadCode = refl
why_back why.Memory = refl

left_of : List ℕ → Left
left_of word =
    if bytes_eq word (codes "peerend") then left.PeerEnd
    else if bytes_eq word (codes "linkfailed") then left.LinkFailed
    else if bytes_eq word (codes "idle") then left.Idle
    else left.Finished

left_back : (l : Left) → left_of (left_word l) ≡ l
unfolding left_of
left_back left.PeerEnd = refl
left_back left.LinkFailed = refl
left_back left.Idle = refl
left_back left.Finished = refl

drained_of : List ℕ → Bool
drained_of word = bytes_eq word (codes "yes")

drained_back : (d : Bool) → drained_of (drained_word d) ≡ d
unfolding drained_of
drained_back true = refl
drained_back false = refl

note_with : List ℕ → List ℕ → List ℕ → List ℕ → NoteValue
note_with word a b c =
    if bytes_eq word (codes "turn") then turn
    else if bytes_eq word (codes "tick") then tick
    else if bytes_eq word (codes "accept") then accepted (number a)
    else if bytes_eq word (codes "busy") then busy (number a)
    else if bytes_eq word (codes "noroom") then no_room (number a)
    else if bytes_eq word (codes "given") then given (number a) (number b)
    else if bytes_eq word (codes "head") then head (number a) (number b)
    else if bytes_eq word (codes "opened") then opened (number a) (number b) (unshown c)
    else if bytes_eq word (codes "text") then message (number a) kind.Text (unshown b)
    else if bytes_eq word (codes "binary") then message (number a) kind.Binary (unshown b)
    else if bytes_eq word (codes "ping") then ping_got (number a) (unshown b)
    else if bytes_eq word (codes "pong") then pong_got (number a) (unshown b)
    else if bytes_eq word (codes "peerclose") then peer_close (number a) (number b) (unshown c)
    else if bytes_eq word (codes "failed") then failed (number a) (number b)
    else if bytes_eq word (codes "took") then took (number a) (number b) (number c)
    else if bytes_eq word (codes "dropped") then dropped (number a) (number b) (number c)
    else if bytes_eq word (codes "unserved") then unserved (number a) (number b) (why_of c)
    else if bytes_eq word (codes "pinged") then pinged (number a)
    else if bytes_eq word (codes "told") then told (number a) (number b) (drained_of c)
    else if bytes_eq word (codes "closed") then closed (number a) (number b) (unshown c)
    else gone (number a) (left_of b)

note_of : List (List ℕ) → NoteValue
note_of parts = note_with (get_or parts 0 []) (get_or parts 1 []) (get_or parts 2 []) (get_or parts 3 [])

note_back : (n : NoteValue) → IsNote n → note_of (parts_of n) ≡ n
unfolding note_of note_with parts_of
note_back turn h = refl
note_back tick h = refl
note_back (accepted conn) h = rw (number_back conn h) refl
note_back (busy conn) h = rw (number_back conn h) refl
note_back (no_room conn) h = rw (number_back conn h) refl
note_back (given conn count) h = rw (number_back conn h.0, number_back count h.1) refl
note_back (head conn status) h = rw (number_back conn h.0, number_back status h.1) refl
note_back (opened conn route param) h = rw (number_back conn h.0, number_back route h.1, unshown_back param h.2) refl
note_back (message conn kind.Text body) h = rw (number_back conn h.0, unshown_back body h.1) refl
note_back (message conn kind.Binary body) h = rw (number_back conn h.0, unshown_back body h.1) refl
note_back (ping_got conn body) h = rw (number_back conn h.0, unshown_back body h.1) refl
note_back (pong_got conn body) h = rw (number_back conn h.0, unshown_back body h.1) refl
note_back (peer_close conn code reason) h = rw (number_back conn h.0, number_back code h.1, unshown_back reason h.2) refl
note_back (failed conn code) h = rw (number_back conn h.0, number_back code h.1) refl
note_back (took conn offered count) h = rw (number_back conn h.0, number_back offered h.1, number_back count h.2) refl
note_back (dropped conn index held) h = rw (number_back conn h.0, number_back index h.1, number_back held h.2) refl
note_back (unserved conn order why) h = rw (number_back conn h.0, number_back order h.1, why_back why) refl
note_back (pinged conn) h = rw (number_back conn h) refl
note_back (told conn count drained) h = rw (number_back conn h.0, number_back count h.1, drained_back drained) refl
note_back (closed conn code reason) h = rw (number_back conn h.0, number_back code h.1, unshown_back reason h.2) refl
note_back (gone conn left) h = rw (number_back conn h, left_back left) refl

-- ---- a note's line

split_line : (parts : List (List ℕ)) (rest : List ℕ) → 0 < length parts → are_clean parts ≡ true → split (line parts ++ rest) ≡ (parts, rest)
unfolding are_clean
split_line [] rest some h = absurd (omega arith)
split_line (part ∷ parts) rest some h =
    let clean = and_parts (is_clean part) (are_clean parts) h in
    split_rest part parts rest clean.0 clean.1

why_clean : (w : Why) → is_clean (why_word w) ≡ true
why_clean why.Absent = refl
why_clean why.NotOpen = refl
why_clean why.TooBig = refl
why_clean why.BadText = refl
why_clean why.BadTopic = refl
why_clean why.Forbidden = refl
why_clean why.TooMany = refl
why_clean why.BadCode = refl
why_clean why.Memory = refl

left_clean : (l : Left) → is_clean (left_word l) ≡ true
left_clean left.PeerEnd = refl
left_clean left.LinkFailed = refl
left_clean left.Idle = refl
left_clean left.Finished = refl

drained_clean : (d : Bool) → is_clean (drained_word d) ≡ true
drained_clean true = refl
drained_clean false = refl

parts_clean : (n : NoteValue) → IsNote n → are_clean (parts_of n) ≡ true
unfolding parts_of are_clean
parts_clean turn h = refl
parts_clean tick h = refl
parts_clean (accepted conn) h = rw (decimal_clean conn h) refl
parts_clean (busy conn) h = rw (decimal_clean conn h) refl
parts_clean (no_room conn) h = rw (decimal_clean conn h) refl
parts_clean (given conn count) h = rw (decimal_clean conn h.0, decimal_clean count h.1) refl
parts_clean (head conn status) h = rw (decimal_clean conn h.0, decimal_clean status h.1) refl
parts_clean (opened conn route param) h = rw (decimal_clean conn h.0, decimal_clean route h.1, shown_clean param) refl
parts_clean (message conn kind.Text body) h = rw (decimal_clean conn h.0, shown_clean body) refl
parts_clean (message conn kind.Binary body) h = rw (decimal_clean conn h.0, shown_clean body) refl
parts_clean (ping_got conn body) h = rw (decimal_clean conn h.0, shown_clean body) refl
parts_clean (pong_got conn body) h = rw (decimal_clean conn h.0, shown_clean body) refl
parts_clean (peer_close conn code reason) h = rw (decimal_clean conn h.0, decimal_clean code h.1, shown_clean reason) refl
parts_clean (failed conn code) h = rw (decimal_clean conn h.0, decimal_clean code h.1) refl
parts_clean (took conn offered count) h = rw (decimal_clean conn h.0, decimal_clean offered h.1, decimal_clean count h.2) refl
parts_clean (dropped conn index held) h = rw (decimal_clean conn h.0, decimal_clean index h.1, decimal_clean held h.2) refl
parts_clean (unserved conn order why) h = rw (decimal_clean conn h.0, decimal_clean order h.1, why_clean why) refl
parts_clean (pinged conn) h = rw (decimal_clean conn h) refl
parts_clean (told conn count drained) h = rw (decimal_clean conn h.0, decimal_clean count h.1, drained_clean drained) refl
parts_clean (closed conn code reason) h = rw (decimal_clean conn h.0, decimal_clean code h.1, shown_clean reason) refl
parts_clean (gone conn left) h = rw (decimal_clean conn h, left_clean left) refl

record IsNoteLine (n : NoteValue) : Type 0 where
  text : note_line n ≡ line (parts_of n)
  some : 0 < length (parts_of n)
  no_link : bytes_eq (get_or (parts_of n) 0 []) (codes "link") ≡ false

note_line_is : (n : NoteValue) → IsNoteLine n
unfolding parts_of
note_line_is turn = record { text = refl; some = omega arith; no_link = refl }
note_line_is tick = record { text = refl; some = omega arith; no_link = refl }
note_line_is (accepted conn) = record { text = refl; some = omega arith; no_link = refl }
note_line_is (busy conn) = record { text = refl; some = omega arith; no_link = refl }
note_line_is (no_room conn) = record { text = refl; some = omega arith; no_link = refl }
note_line_is (given conn count) = record { text = refl; some = omega arith; no_link = refl }
note_line_is (head conn status) = record { text = refl; some = omega arith; no_link = refl }
note_line_is (opened conn route param) = record { text = refl; some = omega arith; no_link = refl }
note_line_is (message conn kind.Text body) = record { text = refl; some = omega arith; no_link = refl }
note_line_is (message conn kind.Binary body) = record { text = refl; some = omega arith; no_link = refl }
note_line_is (ping_got conn body) = record { text = refl; some = omega arith; no_link = refl }
note_line_is (pong_got conn body) = record { text = refl; some = omega arith; no_link = refl }
note_line_is (peer_close conn code reason) = record { text = refl; some = omega arith; no_link = refl }
note_line_is (failed conn code) = record { text = refl; some = omega arith; no_link = refl }
note_line_is (took conn offered count) = record { text = refl; some = omega arith; no_link = refl }
note_line_is (dropped conn index held) = record { text = refl; some = omega arith; no_link = refl }
note_line_is (unserved conn order why) = record { text = refl; some = omega arith; no_link = refl }
note_line_is (pinged conn) = record { text = refl; some = omega arith; no_link = refl }
note_line_is (told conn count drained) = record { text = refl; some = omega arith; no_link = refl }
note_line_is (closed conn code reason) = record { text = refl; some = omega arith; no_link = refl }
note_line_is (gone conn left) = record { text = refl; some = omega arith; no_link = refl }

split_note : (n : NoteValue) (rest : List ℕ) → IsNote n → split (note_line n ++ rest) ≡ (parts_of n, rest)
split_note n rest h =
    let is = note_line_is n in
    ap (λ (v : List ℕ). split (v ++ rest)) is.text ∙ split_line (parts_of n) rest is.some (parts_clean n h)

-- ---- a link's line

link_text : Link → List ℕ
link_text link = link_line link.conn link.held link.octets

link_parts : Link → List (List ℕ)
link_parts link = codes "link" ∷ decimal link.conn ∷ decimal link.held ∷ shown link.octets ∷ []

link_with : List ℕ → List ℕ → List ℕ → Link
link_with a b c = record { conn = number a; held = number b; octets = unshown c }

link_of : List (List ℕ) → Link
link_of parts = link_with (get_or parts 1 []) (get_or parts 2 []) (get_or parts 3 [])

link_back : (l : Link) → IsLink l → link_of (link_parts l) ≡ l
unfolding link_of link_parts link_with
link_back l h = rw (number_back l.conn h.0, number_back l.held h.1, unshown_back l.octets h.2) refl

split_link : (l : Link) (rest : List ℕ) → IsLink l → split (link_text l ++ rest) ≡ (link_parts l, rest)
unfolding link_text link_parts are_clean
split_link l rest h = split_line (link_parts l) rest (omega arith) (rw (decimal_clean l.conn h.0, decimal_clean l.held h.1, shown_clean l.octets) refl)

-- ---- lists of lines

nothing_before : (parts : List (List ℕ)) (rest : List ℕ) → 0 < length parts → split [] ≡ (parts, rest) → ⊥
nothing_before parts rest some e = let n : 0 ≡ length parts = ap (λ (p : List (List ℕ) × List ℕ). length p.0) e in absurd (omega (arith, n))

parts_same : (p q : List (List ℕ) × List ℕ) → p ≡ q → p.0 ≡ q.0
parts_same p q e = ap (λ (p : List (List ℕ) × List ℕ). p.0) e

rest_same : (p q : List (List ℕ) × List ℕ) → p ≡ q → p.1 ≡ q.1
rest_same p q e = ap (λ (p : List (List ℕ) × List ℕ). p.1) e

links_once : (links more : List Link) → AllByRecursion IsLink links → AllByRecursion IsLink more → flat_map link_text links ≡ flat_map link_text more → links ≡ more
unfolding link_parts
links_once [] [] h k e = refl
links_once [] (l ∷ more) h k e = absurd (nothing_before (link_parts l) (flat_map link_text more) (omega arith) (ap split e ∙ split_link l (flat_map link_text more) k.0))
links_once (l ∷ links) [] h k e = absurd (nothing_before (link_parts l) (flat_map link_text links) (omega arith) (ap split (sym e) ∙ split_link l (flat_map link_text links) h.0))
links_once (l ∷ links) (m ∷ more) h k e =
    let both = sym (split_link l (flat_map link_text links) h.0) ∙ ap split e ∙ split_link m (flat_map link_text more) k.0 in
    let same : l ≡ m = sym (link_back l h.0) ∙ ap link_of (parts_same (link_parts l, flat_map link_text links) (link_parts m, flat_map link_text more) both) ∙ link_back m k.0 in
    ap (λ (z : Link). z ∷ links) same ∙ ap (λ (zs : List Link). m ∷ zs) (links_once links more h.1 k.1 (rest_same (link_parts l, flat_map link_text links) (link_parts m, flat_map link_text more) both))

is_link : List (List ℕ) → Bool
is_link parts = bytes_eq (get_or parts 0 []) (codes "link")

note_no_link : (n : NoteValue) (l : Link) → parts_of n ≡ link_parts l → ⊥
unfolding is_link link_parts
note_no_link n l e = clash (sym (sym (note_line_is n).no_link ∙ ap is_link e))

no_note : (links : List Link) (n : NoteValue) (rest : List ℕ) → AllByRecursion IsLink links → IsNote n → flat_map link_text links ≡ note_line n ++ rest → ⊥
no_note [] n rest h k e = nothing_before (parts_of n) rest (note_line_is n).some (ap split e ∙ split_note n rest k)
no_note (l ∷ links) n rest h k e = note_no_link n l (parts_same (parts_of n, rest) (link_parts l, flat_map link_text links) (sym (split_note n rest k) ∙ ap split (sym e) ∙ split_link l (flat_map link_text links) h.0))

record SameReport (notes others : List NoteValue) (links more : List Link) : Type 0 where
  note : notes ≡ others
  link : links ≡ more

reports_once : (notes others : List NoteValue) (links more : List Link) → AllByRecursion IsNote notes → AllByRecursion IsNote others → AllByRecursion IsLink links → AllByRecursion IsLink more
    → flat_map note_line notes ++ flat_map link_text links ≡ flat_map note_line others ++ flat_map link_text more → SameReport notes others links more
reports_once [] [] links more a b c d e = record { note = refl; link = links_once links more c d e }
reports_once [] (n ∷ others) links more a b c d e = absurd (no_note links n (flat_map note_line others ++ flat_map link_text more) c b.0 (e ∙ append_assoc (note_line n) (flat_map note_line others) (flat_map link_text more)))
reports_once (n ∷ notes) [] links more a b c d e = absurd (no_note more n (flat_map note_line notes ++ flat_map link_text links) d a.0 (sym e ∙ append_assoc (note_line n) (flat_map note_line notes) (flat_map link_text links)))
reports_once (n ∷ notes) (m ∷ others) links more a b c d e =
    let x = flat_map note_line notes ++ flat_map link_text links in
    let y = flat_map note_line others ++ flat_map link_text more in
    let whole : note_line n ++ x ≡ note_line m ++ y = sym (append_assoc (note_line n) (flat_map note_line notes) (flat_map link_text links)) ∙ e ∙ append_assoc (note_line m) (flat_map note_line others) (flat_map link_text more) in
    let both = sym (split_note n x a.0) ∙ ap split whole ∙ split_note m y b.0 in
    let same : n ≡ m = sym (note_back n a.0) ∙ ap note_of (parts_same (parts_of n, x) (parts_of m, y) both) ∙ note_back m b.0 in
    let later = reports_once notes others links more a.1 b.1 c d (rest_same (parts_of n, x) (parts_of m, y) both) in
    record { note = ap (λ (z : NoteValue). z ∷ notes) same ∙ ap (λ (zs : List NoteValue). m ∷ zs) later.note; link = later.link }

pub one_to_one : IsOneToOne
unfolding link_text
one_to_one notes others links more a b c d e = let same = reports_once notes others links more a b c d e in (same.note, same.link)
