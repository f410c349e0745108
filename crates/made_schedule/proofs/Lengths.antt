-- How many acts there are.
use Rattle.made_schedule.proofs.Below.{◌≡◌, ℕ, zero, suc, ◌+◌, ◌*◌, List, [], ◌∷◌, ◌++◌, length, refl, arith, length-append, Act, message, made_acts, opening, messages, openings, round, rounds, state_after}
use Rattle.link_trait.specs.declared.act.Act.TheVariants as act

openings_length : (count : ℕ) → length (openings count) ≡ 2 * count
unfolding openings
openings_length zero = refl
openings_length (suc count) = omega (arith, length-append (openings count) (opening (suc count)), openings_length count)

messages_length : (count state : ℕ) → length (messages count state) ≡ count
unfolding messages
messages_length zero state = refl
messages_length (suc count) state = omega (arith, length-append (messages count state) (message (state_after (suc count) state) ∷ []), messages_length count state)

rounds_length : (count state : ℕ) → length (rounds count state) ≡ 17 * count
unfolding rounds
rounds_length zero state = refl
rounds_length (suc count) state =
    let start = state_after (16 * count) state in
    omega (arith, length-append (rounds count state) (round start), length-append (messages 16 start) (act.Turn ∷ []), messages_length 16 start, rounds_length count state)

pub made_length : (seed : ℕ) → length (made_acts seed) ≡ 8629
made_length seed = omega (arith, length-append (openings 64) (act.Turn ∷ rounds 500 seed), openings_length 64, rounds_length 500 seed)
