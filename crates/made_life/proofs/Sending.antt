-- What each connection of a made schedule sends: the request, and then its messages.
use Rattle.std.proofs.Common.{◌≡◌, ◌≤◌, ◌<◌, ℕ, zero, suc, ◌+◌, ◌*◌, Bool, true, false, cond, nat_eq, List, [], ◌∷◌, ◌++◌, refl, sym, ap, ◌∙◌, arith, append-nil, append_assoc}
use Rattle.std.specs.List.{filter, flat_map}
use Rattle.std.proofs.lemmas.Bool.Decides.{nat_tests}
use Rattle.std.proofs.lemmas.Grind.{flat_map-append}
use Rattle.std.proofs.lemmas.List.Elements.{filter-append}
use Rattle.ws_kinds.proofs.Facts.{by_cases}
use Rattle.link_trait.specs.declared.act.Act.{Act}
use Rattle.link_trait.specs.declared.act.Act.TheVariants as act
use Rattle.mem_net.specs.Acts.{sent, sent_by}
use Rattle.made_schedule.specs.Generator.{state_after}
use Rattle.made_schedule.specs.Message.{message, octets_of, sender_of}
use Rattle.made_schedule.specs.Made.{made_acts, messages, opening, openings, room_head, round, rounds}
use Rattle.made_schedule.proofs.Steps.{steps_more}
use Rattle.made_life.specs.Sending.{is_sender, states, states_of}

sent_then : (c : ℕ) (xs ys : List Act) → sent c (xs ++ ys) ≡ sent c xs ++ sent c ys
sent_then c xs ys = flat_map-append (sent_by c) xs ys

opening_sent : (c n : ℕ) → sent c (opening n) ≡ cond (nat_eq n c) room_head []
opening_sent c n = append-nil (cond (nat_eq n c) room_head [])

-- those that did not come yet sent nothing
openings_none : (c n : ℕ) → n < c → sent c (openings n) ≡ []
unfolding openings
openings_none c zero low = refl
openings_none c (suc n) low =
    let other : nat_eq (suc n) c ≡ false = grind (arith, nat_tests) in
    sent_then c (openings n) (opening (suc n)) ∙ rw (openings_none c n (omega arith), opening_sent c (suc n), other) refl

pub openings_head : (c n : ℕ) → 1 ≤ c → c ≤ n → sent c (openings n) ≡ room_head
unfolding openings
openings_head c zero one high = absurd (omega arith)
openings_head c (suc n) one high =
    sent_then c (openings n) (opening (suc n)) ∙ by_cases (nat_eq (suc n) c)
    (λ here.
    let is : suc n ≡ c = grind (arith, nat_tests) in
    rw (openings_none c n (omega (arith, is)), opening_sent c (suc n), here) refl)
    (λ there.
    let below : c ≤ n = grind (arith, nat_tests) in
    rw (openings_head c n one below, opening_sent c (suc n), there) (append-nil room_head))

-- the messages of some of these states
abbrev sent_of : ℕ → List ℕ → List ℕ
sent_of c xs = flat_map octets_of (filter (is_sender c) xs)

sent_of_then : (c : ℕ) (xs ys : List ℕ) → sent_of c (xs ++ ys) ≡ sent_of c xs ++ sent_of c ys
sent_of_then c xs ys = ap (flat_map octets_of) (filter-append (is_sender c) xs ys) ∙ flat_map-append octets_of (filter (is_sender c) xs) (filter (is_sender c) ys)

message_sent : (c state : ℕ) → sent c (message state ∷ []) ≡ sent_of c (state ∷ [])
message_sent c state = one (nat_eq (sender_of state) c)
  where
    one : (b : Bool) → cond b (octets_of state) [] ++ [] ≡ flat_map octets_of (cond b (state ∷ []) [])
    one true = refl
    one false = refl

messages_sent : (c count state : ℕ) → sent c (messages count state) ≡ sent_of c (states count state)
unfolding messages states
messages_sent c zero state = refl
messages_sent c (suc count) state =
    let next = state_after (suc count) state in
    sent_then c (messages count state) (message next ∷ []) ∙ rw (messages_sent c count state, message_sent c next) (sym (sent_of_then c (states count state) (next ∷ [])))

round_sent : (c state : ℕ) → sent c (round state) ≡ sent_of c (states 16 state)
round_sent c state = sent_then c (messages 16 state) (act.Turn ∷ []) ∙ append-nil (sent c (messages 16 state)) ∙ messages_sent c 16 state

-- some steps, and then others
pub states_then : (more count state : ℕ) → states (more + count) state ≡ states count state ++ states more (state_after count state)
unfolding states
states_then zero count state =
    let none : 0 + count ≡ count = omega arith in
    rw none (sym (append-nil (states count state)))
states_then (suc more) count state =
    let sum : suc more + count ≡ suc (more + count) = omega arith in
    let start = state_after count state in
    let same : state_after (suc (more + count)) state ≡ state_after (suc more) start = ap (λ k. state_after k state) (sym sum) ∙ steps_more (suc more) count state in
    ap (λ k. states k state) sum
    ∙ ap (λ (l : List ℕ). l ++ state_after (suc (more + count)) state ∷ []) (states_then more count state)
    ∙ append_assoc (states count state) (states more start) (state_after (suc (more + count)) state ∷ [])
    ∙ ap (λ (k : ℕ). states count state ++ (states more start ++ k ∷ [])) same

rounds_sent : (c count state : ℕ) → sent c (rounds count state) ≡ sent_of c (states (16 * count) state)
unfolding rounds states
rounds_sent c zero state = refl
rounds_sent c (suc count) state =
    let start = state_after (16 * count) state in
    let sum : 16 * suc count ≡ 16 + 16 * count = omega arith in
    sent_then c (rounds count state) (round start)
    ∙ rw (rounds_sent c count state, round_sent c start) (sym (ap (λ k. sent_of c (states k state)) sum ∙ ap (sent_of c) (states_then 16 (16 * count) state) ∙ sent_of_then c (states (16 * count) state) (states 16 start)))

pub made_sent : (seed conn : ℕ) → 1 ≤ conn → conn ≤ 64 → sent conn (made_acts seed) ≡ room_head ++ flat_map octets_of (states_of conn seed)
made_sent seed conn one most =
    sent_then conn (openings 64) (act.Turn ∷ rounds 500 seed) ∙ rw (openings_head conn 64 one most, rounds_sent conn 500 seed) refl
