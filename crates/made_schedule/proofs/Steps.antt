-- One more step, connection, message and round.
use Rattle.made_schedule.proofs.Below.{◌≡◌, ℕ, zero, suc, ◌+◌, ◌*◌, List, [], ◌∷◌, ◌++◌, refl, sym, ◌∙◌, ap, arith, append_assoc, append-nil, Act, next_state, state_after, message, opening, openings, messages, round, rounds}

pub no_step : (state : ℕ) → state_after 0 state ≡ state
unfolding state_after
no_step state = refl

pub step_more : (steps state : ℕ) → state_after (steps + 1) state ≡ next_state (state_after steps state)
unfolding state_after
step_more steps state =
    let e : steps + 1 ≡ suc steps = omega arith in
    ap (λ n. state_after n state) e

pub steps_more : (more steps state : ℕ) → state_after (more + steps) state ≡ state_after more (state_after steps state)
unfolding state_after
steps_more zero steps state =
    let e : 0 + steps ≡ steps = omega arith in
    ap (λ n. state_after n state) e
steps_more (suc more) steps state =
    let e : suc more + steps ≡ suc (more + steps) = omega arith in
    ap (λ n. state_after n state) e ∙ ap next_state (steps_more more steps state)

-- the steps of one more round
pub round_more : (count each steps state : ℕ) → each ≡ steps → state_after (each * (count + 1)) state ≡ state_after steps (state_after (each * count) state)
round_more count each steps state same =
    let e : each * (count + 1) ≡ each + each * count = omega arith in
    ap (λ n. state_after n state) e ∙ steps_more each (each * count) state ∙ ap (λ n. state_after n (state_after (each * count) state)) same

pub no_openings : openings 0 ≡ []
unfolding openings
no_openings = refl

pub opening_more : (count : ℕ) → openings (count + 1) ≡ openings count ++ opening (count + 1)
unfolding openings
opening_more count =
    let e : count + 1 ≡ suc count = omega arith in
    ap openings e ∙ ap (λ n. openings count ++ opening n) (sym e)

pub no_messages : (state : ℕ) → messages 0 state ≡ []
unfolding messages
no_messages state = refl

pub message_more : (count state : ℕ) → messages (count + 1) state ≡ messages count state ++ message (next_state (state_after count state)) ∷ []
unfolding messages state_after
message_more count state =
    let e : count + 1 ≡ suc count = omega arith in
    ap (λ n. messages n state) e

pub no_rounds : (state : ℕ) → rounds 0 state ≡ []
unfolding rounds
no_rounds state = refl

pub rounds_more : (count state : ℕ) → rounds (count + 1) state ≡ rounds count state ++ round (state_after (16 * count) state)
unfolding rounds
rounds_more count state =
    let e : count + 1 ≡ suc count = omega arith in
    ap (λ n. rounds n state) e

-- what was put behind what was put before is what was put in all
pub put_more : (old before new more done : List Act) → new ≡ before ++ more → before ≡ old ++ done → new ≡ old ++ (done ++ more)
put_more old before new more done e f = e ∙ ap (λ l. l ++ more) f ∙ append_assoc old done more

pub put_none : (old none : List Act) → none ≡ [] → old ≡ old ++ none
put_none old none e = sym (append-nil old) ∙ ap (λ l. old ++ l) (sym e)

-- three parts that were put one after another, where nothing was before
pub put_three : (start one two three first second third : List Act) → start ≡ [] → one ≡ start ++ first → two ≡ one ++ second → three ≡ two ++ third → three ≡ first ++ (second ++ third)
put_three start one two three first second third e f g h =
    let begun : one ≡ first = f ∙ ap (λ l. l ++ first) e in
    h ∙ ap (λ l. l ++ third) (g ∙ ap (λ l. l ++ second) begun) ∙ append_assoc first second third
