-- How many items there are in the room: each of the 64 connections has one reply, and the messages of all others.
use Rattle.std.proofs.Common.{◌≡◌, ℕ, suc, ◌+◌, ◌*◌, Bool, true, false, cond, not, nat_eq, List, [], ◌∷◌, length, map, refl, sym, ap, ◌∙◌, arith}
use Rattle.ws_kinds.proofs.Facts.{same_number as itself}
use Rattle.std.proofs.lemmas.Bool.{or_right}
use Rattle.ws_kinds.specs.NoteValue as note
use Rattle.ws_kinds.specs.NoteValue.{NoteValue}
use Rattle.wire_meaning.specs.Event as wire
use Rattle.run_meaning.specs.Counts.{has_number, number_of, total}
use Rattle.run_meaning.specs.Life.{Heard, heard, heard_by, opened, read, refused}
use Rattle.hub_notes.proofs.NetLemmas.{number_then}
use Rattle.made_life.specs.Life.{is_message, is_message_heard}
use Rattle.made_life.specs.Sending.{numbers, states_of}
use Rattle.made_life.proofs.Counting.{made_count}
use Rattle.made_life.proofs.Hearing.{numbers_length}
use Rattle.made_life.proofs.Rooms.{is_other}

-- the note says that a message of this connection was read
abbrev is_own : ℕ → NoteValue → Bool
is_own conn (note.message other kind body) = nat_eq other conn
is_own conn _ = false

-- a message is the connection's own, or another's
own_or_other : (d : ℕ) (ns : List NoteValue) → number_of (is_own d) ns + number_of (is_other d) ns ≡ number_of is_message ns
own_or_other d [] = refl
own_or_other d (note.message c kind body ∷ ns) = one (nat_eq c d) (own_or_other d ns)
  where
    one : (b : Bool) → number_of (is_own d) ns + number_of (is_other d) ns ≡ number_of is_message ns
        → cond b (suc (number_of (is_own d) ns)) (number_of (is_own d) ns) + cond (not b) (suc (number_of (is_other d) ns)) (number_of (is_other d) ns) ≡ suc (number_of is_message ns)
    one true rest = omega (arith, rest)
    one false rest = omega (arith, rest)
own_or_other d (_ ∷ ns) = own_or_other d ns

-- its own are those that were heard of it
own_heard : (d : ℕ) (ns : List NoteValue) → number_of (is_own d) ns ≡ number_of is_message_heard (heard d ns)
own_heard d [] = refl
own_heard d (n ∷ ns) = count (is_own d n) ∙ rw (own_heard d ns, ← one n) (sym (number_then is_message_heard (heard_by d n) (heard d ns)))
  where
    count : (b : Bool) → cond b (suc (number_of (is_own d) ns)) (number_of (is_own d) ns) ≡ cond b 1 0 + number_of (is_own d) ns
    count true = omega arith
    count false = omega arith

    no : (b : Bool) (h : Heard) → is_message_heard h ≡ false → number_of is_message_heard (cond b (h ∷ []) []) ≡ 0
    no true h e = ap (λ z. cond z 1 0) e
    no false h e = refl

    own : (b : Bool) (h : Heard) → is_message_heard h ≡ true → number_of is_message_heard (cond b (h ∷ []) []) ≡ cond b 1 0
    own true h e = ap (λ z. cond z 1 0) e
    own false h e = refl

    one : (n : NoteValue) → number_of is_message_heard (heard_by d n) ≡ cond (is_own d n) 1 0
    one (note.message c kind body) = own (nat_eq c d) (read (wire.message kind body)) refl
    one (note.opened c route param) = no (nat_eq c d) (opened route param) refl
    one (note.head c status) = no (nat_eq c d) (refused status) refl
    one (note.ping_got c body) = no (nat_eq c d) (read (wire.ping body)) refl
    one (note.pong_got c body) = no (nat_eq c d) (read (wire.pong body)) refl
    one (note.peer_close c code reason) = no (nat_eq c d) (read (wire.closed code reason)) refl
    one (note.failed c code) = no (nat_eq c d) (read (wire.failed code)) refl
    one _ = refl

-- of all messages those of a connection and those of the others
pub others_heard : (d : ℕ) (ns : List NoteValue) → number_of (is_other d) ns + number_of is_message_heard (heard d ns) ≡ number_of is_message ns
others_heard d ns = let own = own_heard d ns in let all = own_or_other d ns in omega (arith, own, all)

-- two numbers whose sum is 8,001 for each connection
sums_alike : (f g : ℕ → ℕ) (xs : List ℕ) → ((c : ℕ) → has_number c xs ≡ true → f c + g c ≡ 8001) → total (map f xs) + total (map g xs) ≡ 8001 * length xs
sums_alike f g [] one = omega arith
sums_alike f g (x ∷ xs) one =
    let first = one x (rw (itself x) refl) in
    let rest = sums_alike f g xs (λ c there. one c (or_right (nat_eq c x) (has_number c xs) there)) in
    omega (arith, first, rest)

-- with 8,000 messages in all, of which each connection is not sent its own
pub items_spread : (items : ℕ → ℕ) (seed : ℕ) → ((c : ℕ) → has_number c (numbers 64) ≡ true → items c + length (states_of c seed) ≡ 8001) → total (map items (numbers 64)) ≡ 504064
items_spread items seed each =
    let all = sums_alike items (λ c. length (states_of c seed)) (numbers 64) each in
    let messages = made_count seed in
    let size = numbers_length 64 in
    sum (total (map items (numbers 64))) (total (map (λ c. length (states_of c seed)) (numbers 64))) (length (numbers 64)) all messages size
  where
    sum : (x y n : ℕ) → x + y ≡ 8001 * n → y ≡ 8000 → n ≡ 64 → x ≡ 504064
    sum x y n all messages size = omega (arith, all, messages, size)
