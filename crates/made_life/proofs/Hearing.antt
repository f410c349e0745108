-- How many messages are noted, and who is accepted.
use Rattle.std.proofs.Common.{◌≡◌, ◌≤◌, ℕ, zero, suc, ◌+◌, Bool, true, false, cond, ◌&&◌, nat_eq, nat_le, List, [], ◌∷◌, ◌++◌, length, map, refl, sym, ap, ◌∙◌, arith, append-nil}
use Rattle.std.specs.List.{flat_map, list_all}
use Rattle.std.proofs.lemmas.Bool.Decides.{nat_tests}
use Rattle.std.proofs.lemmas.Grind.{flat_map-append}
use Rattle.std.proofs.lemmas.List.{length-append}
use Rattle.ws_kinds.proofs.Facts.{and_left, and_right}
use Rattle.ws_kinds.specs.declared.kind.Kind.TheVariants.{Text}
use Rattle.ws_kinds.specs.NoteValue as note
use Rattle.ws_kinds.specs.NoteValue.{NoteValue}
use Rattle.wire_meaning.specs.Event as wire
use Rattle.link_trait.specs.declared.act.Act.{Act}
use Rattle.link_trait.specs.declared.act.Act.TheVariants as act
use Rattle.link_trait.specs.declared.net.NetEvent.{NetEvent}
use Rattle.link_trait.specs.declared.net.NetEvent.TheVariants as event
use Rattle.mem_net.specs.Acts.{arrivals, passes}
use Rattle.made_schedule.specs.Message.{body_of}
use Rattle.run_meaning.specs.Counts.{accepted_by, gather, number_of, total}
use Rattle.run_meaning.specs.Life.{Heard, heard, heard_by, opened, read, refused}
use Rattle.run_meaning.specs.Replies.{is_opened}
use Rattle.run_meaning.specs.Network.{Mark, marks_by, marks_of}
use Rattle.run_meaning.specs.Network as mark
use Rattle.hub_notes.proofs.NetLemmas.{number_then}
use Rattle.made_life.specs.Sending.{numbers, states_of}
use Rattle.made_life.specs.Life.{is_message, is_message_heard, made_life}
use Rattle.made_life.proofs.Counting.{ones_one}

-- ---- messages

-- a message of one of the connections from 1 to 64, or no message
abbrev pub is_within : NoteValue → Bool
is_within (note.message conn kind body) = nat_le 1 conn && nat_le conn 64
is_within _ = true

abbrev over : (ℕ → ℕ) → List ℕ → ℕ
over f cs = total (map f cs)

over_same : (f g : ℕ → ℕ) (cs : List ℕ) → ((c : ℕ) → f c ≡ g c) → over f cs ≡ over g cs
over_same f g [] same = refl
over_same f g (c ∷ cs) same = rw (same c, over_same f g cs same) refl

over_none : (cs : List ℕ) → over (λ c. 0) cs ≡ 0
over_none [] = refl
over_none (c ∷ cs) = let rest = over_none cs in omega (arith, rest)

over_sum : (f g : ℕ → ℕ) (cs : List ℕ) → over (λ c. f c + g c) cs ≡ over f cs + over g cs
over_sum f g [] = refl
over_sum f g (c ∷ cs) = let rest = over_sum f g cs in omega (arith, rest)

-- what is no message
only : (b : Bool) (h : Heard) → is_message_heard h ≡ false → number_of is_message_heard (cond b (h ∷ []) []) ≡ 0
only true h e = ap (λ z. cond z 1 0) e
only false h e = refl

silent : (f : ℕ → ℕ) → ((c : ℕ) → f c ≡ 0) → over f (numbers 64) ≡ 0
silent f none = over_same f (λ c. 0) (numbers 64) none ∙ over_none (numbers 64)

-- what one note tells of messages, over all connections
one_note : (n : NoteValue) → is_within n ≡ true → over (λ c. number_of is_message_heard (heard_by c n)) (numbers 64) ≡ cond (is_message n) 1 0
one_note (note.message k kind body) within =
    let low : 1 ≤ k = (let e = and_left (nat_le 1 k) (nat_le k 64) within in grind (arith, nat_tests)) in
    let high : k ≤ 64 = (let e = and_right (nat_le 1 k) (nat_le k 64) within in grind (arith, nat_tests)) in
    over_same (λ c. number_of is_message_heard (heard_by c (note.message k kind body))) (λ c. cond (nat_eq k c) 1 0) (numbers 64) (λ c. one (nat_eq k c)) ∙ ones_one k 64 low high
  where
    one : (b : Bool) → number_of is_message_heard (cond b (read (wire.message kind body) ∷ []) []) ≡ cond b 1 0
    one true = refl
    one false = refl
one_note (note.head k status) within = silent (λ c. number_of is_message_heard (heard_by c (note.head k status))) (λ c. only (nat_eq k c) (refused status) refl)
one_note (note.opened k route param) within = silent (λ c. number_of is_message_heard (heard_by c (note.opened k route param))) (λ c. only (nat_eq k c) (opened route param) refl)
one_note (note.ping_got k body) within = silent (λ c. number_of is_message_heard (heard_by c (note.ping_got k body))) (λ c. only (nat_eq k c) (read (wire.ping body)) refl)
one_note (note.pong_got k body) within = silent (λ c. number_of is_message_heard (heard_by c (note.pong_got k body))) (λ c. only (nat_eq k c) (read (wire.pong body)) refl)
one_note (note.peer_close k code reason) within = silent (λ c. number_of is_message_heard (heard_by c (note.peer_close k code reason))) (λ c. only (nat_eq k c) (read (wire.closed code reason)) refl)
one_note (note.failed k code) within = silent (λ c. number_of is_message_heard (heard_by c (note.failed k code))) (λ c. only (nat_eq k c) (read (wire.failed code)) refl)
one_note _ within = over_none (numbers 64)

-- as many messages are noted as are heard of all connections
pub messages_heard : (ns : List NoteValue) → list_all is_within ns ≡ true → number_of is_message ns ≡ total (map (λ c. number_of is_message_heard (heard c ns)) (numbers 64))
messages_heard [] within = sym (over_none (numbers 64))
messages_heard (n ∷ ns) within =
    let rest = messages_heard ns (and_right (is_within n) (list_all is_within ns) within) in
    let first = one_note n (and_left (is_within n) (list_all is_within ns) within) in
    one (is_message n) ∙ rw (← first, rest)
    (sym (over_same (λ c. number_of is_message_heard (heard c (n ∷ ns))) (λ c. number_of is_message_heard (heard_by c n) + number_of is_message_heard (heard c ns)) (numbers 64) (λ c. number_then is_message_heard (heard_by c n) (heard c ns))
    ∙ over_sum (λ c. number_of is_message_heard (heard_by c n)) (λ c. number_of is_message_heard (heard c ns)) (numbers 64)))
  where
    one : (b : Bool) → cond b (suc (number_of is_message ns)) (number_of is_message ns) ≡ cond b 1 0 + number_of is_message ns
    one true = omega arith
    one false = omega arith

-- how many are in a life
pub life_messages : (conn seed : ℕ) → number_of is_message_heard (made_life conn seed) ≡ length (states_of conn seed)
life_messages conn seed = each (states_of conn seed)
  where
    each : (states : List ℕ) → number_of is_message_heard (map (λ state. read (wire.message Text (body_of state))) states) ≡ length states
    each [] = refl
    each (state ∷ states) = ap suc (each states)

-- ---- who is accepted

-- the connection of a note that one came
abbrev pub come_by : NoteValue → List ℕ
come_by (note.accepted conn) = conn ∷ []
come_by (note.busy conn) = conn ∷ []
come_by (note.no_room conn) = conn ∷ []
come_by _ = []

abbrev pub arrival_of : Mark → List ℕ
arrival_of (mark.arrival conn) = conn ∷ []
arrival_of mark.tick = []
arrival_of mark.turn = []

pub come_marked : (ns : List NoteValue) → gather come_by ns ≡ flat_map arrival_of (gather marks_by ns)
come_marked [] = refl
come_marked (n ∷ ns) = one n ∙ ap (λ (l : List ℕ). flat_map arrival_of (marks_by n) ++ l) (come_marked ns) ∙ sym (flat_map-append arrival_of (marks_by n) (gather marks_by ns))
  where
    one : (n : NoteValue) → come_by n ++ gather come_by ns ≡ flat_map arrival_of (marks_by n) ++ gather come_by ns
    one note.turn = refl
    one note.tick = refl
    one (note.accepted conn) = refl
    one (note.busy conn) = refl
    one (note.no_room conn) = refl
    one _ = refl

pub acts_marked : (acts : List Act) → flat_map arrival_of (flat_map marks_of (passes acts)) ≡ arrivals acts
acts_marked [] = refl
acts_marked (act.Arrive conn credit ∷ acts) = ap (λ (l : List ℕ). conn.0 ∷ l) (acts_marked acts)
acts_marked (act.Octets conn octets ∷ acts) = acts_marked acts
acts_marked (act.End conn ∷ acts) = acts_marked acts
acts_marked (act.ReadFails conn ∷ acts) = acts_marked acts
acts_marked (act.Room conn more ∷ acts) = acts_marked acts
acts_marked (act.WriteFails conn ∷ acts) = acts_marked acts
acts_marked (act.Tick ∷ acts) = acts_marked acts
acts_marked (act.Turn ∷ acts) = acts_marked acts

fewer : (ns : List NoteValue) → length (gather accepted_by ns) ≤ length (gather come_by ns)
fewer [] = omega arith
fewer (note.accepted conn ∷ ns) = omega (arith, fewer ns)
fewer (note.busy conn ∷ ns) = omega (arith, fewer ns)
fewer (note.no_room conn ∷ ns) = omega (arith, fewer ns)
fewer (_ ∷ ns) = fewer ns

all_come : (ns : List NoteValue) → length (gather accepted_by ns) ≡ length (gather come_by ns) → gather accepted_by ns ≡ gather come_by ns
all_come [] same = refl
all_come (note.accepted conn ∷ ns) same = ap (λ (l : List ℕ). conn ∷ l) (all_come ns (omega (arith, same)))
all_come (note.busy conn ∷ ns) same = absurd (omega (arith, same, fewer ns))
all_come (note.no_room conn ∷ ns) same = absurd (omega (arith, same, fewer ns))
all_come (_ ∷ ns) same = all_come ns same

pub numbers_length : (n : ℕ) → length (numbers n) ≡ n
unfolding numbers
numbers_length zero = refl
numbers_length (suc n) = omega (arith, length-append (numbers n) (suc n ∷ []), numbers_length n)

-- where as many are accepted as arrive by the acts, they are all of these, in order
pub all_accepted : (acts : List Act) (last : ℕ) (ns : List NoteValue) (passed : List NetEvent) → arrivals acts ≡ numbers last → gather marks_by ns ≡ flat_map marks_of passed → passed ≡ passes acts ++ event.Stop ∷ []
    → length (gather accepted_by ns) ≡ last → gather accepted_by ns ≡ numbers last
all_accepted acts last ns passed are follows is count =
    let come : gather come_by ns ≡ numbers last =
    come_marked ns ∙ ap (flat_map arrival_of) (follows ∙ ap (flat_map marks_of) is ∙ flat_map-append marks_of (passes acts) (event.Stop ∷ []))
    ∙ flat_map-append arrival_of (flat_map marks_of (passes acts)) (mark.turn ∷ []) ∙ append-nil (flat_map arrival_of (flat_map marks_of (passes acts))) ∙ acts_marked acts ∙ are in
    all_come ns (count ∙ sym (ap (λ (l : List ℕ). length l) come ∙ numbers_length last)) ∙ come

-- ---- openings

abbrev pub is_opening : Heard → Bool
is_opening (opened route param) = true
is_opening _ = false

-- how often a connection was opened, by its notes and by what was heard
pub opened_heard : (c : ℕ) (ns : List NoteValue) → number_of (is_opened c) ns ≡ number_of is_opening (heard c ns)
opened_heard c [] = refl
opened_heard c (n ∷ ns) = count (is_opened c n) ∙ rw (opened_heard c ns, ← one n) (sym (number_then is_opening (heard_by c n) (heard c ns)))
  where
    count : (b : Bool) → cond b (suc (number_of (is_opened c) ns)) (number_of (is_opened c) ns) ≡ cond b 1 0 + number_of (is_opened c) ns
    count true = omega arith
    count false = omega arith

    no : (b : Bool) (h : Heard) → is_opening h ≡ false → number_of is_opening (cond b (h ∷ []) []) ≡ 0
    no true h e = ap (λ z. cond z 1 0) e
    no false h e = refl

    own : (b : Bool) (route : ℕ) (param : List ℕ) → number_of is_opening (cond b (opened route param ∷ []) []) ≡ cond b 1 0
    own true route param = refl
    own false route param = refl

    one : (n : NoteValue) → number_of is_opening (heard_by c n) ≡ cond (is_opened c n) 1 0
    one (note.opened d route param) = own (nat_eq d c) route param
    one (note.head d status) = no (nat_eq d c) (refused status) refl
    one (note.message d kind body) = no (nat_eq d c) (read (wire.message kind body)) refl
    one (note.ping_got d body) = no (nat_eq d c) (read (wire.ping body)) refl
    one (note.pong_got d body) = no (nat_eq d c) (read (wire.pong body)) refl
    one (note.peer_close d code reason) = no (nat_eq d c) (read (wire.closed code reason)) refl
    one (note.failed d code) = no (nat_eq d c) (read (wire.failed code)) refl
    one _ = refl

-- of whom this life was heard was opened once
pub opened_once : (c conn seed : ℕ) (ns : List NoteValue) → heard c ns ≡ made_life conn seed → number_of (is_opened c) ns ≡ 1
opened_once c conn seed ns is = opened_heard c ns ∙ ap (number_of is_opening) is ∙ ap suc (each (states_of conn seed))
  where
    each : (states : List ℕ) → number_of is_opening (map (λ state. read (wire.message Text (body_of state))) states) ≡ 0
    each [] = refl
    each (state ∷ states) = each states
