-- How many messages there are: each state gives one of the 64 connections a message.
use Rattle.std.proofs.Common.{◌≡◌, ◌≤◌, ◌<◌, ℕ, zero, suc, ◌+◌, ◌^◌, Bool, true, false, cond, nat_eq, nat_lt, List, [], ◌∷◌, ◌++◌, length, map, refl, ◌∙◌, arith}
use Rattle.std.specs.List.{filter, list_all}
use Rattle.std.proofs.lemmas.Bool.Decides.{nat_tests}
use Rattle.std.proofs.lemmas.List.{length-append}
use Rattle.std.proofs.lemmas.List.Folds.{list_all-append}
use Rattle.ws_kinds.proofs.Facts.{and_left, and_right, by_cases}
use Rattle.made_schedule.specs.Generator.{state_after}
use Rattle.made_schedule.specs.Message.{sender_of}
use Rattle.run_meaning.specs.Counts.{total}
use Rattle.made_life.specs.Sending.{is_sender, numbers, states, states_of}

states_length : (count state : ℕ) → length (states count state) ≡ count
unfolding states
states_length zero state = refl
states_length (suc count) state = omega (arith, length-append (states count state) (state_after (suc count) state ∷ []), states_length count state)

-- how many of these numbers are this one
abbrev pub ones : ℕ → List ℕ → List ℕ
ones k cs = map (λ (c : ℕ). cond (nat_eq k c) 1 0) cs

-- the sum with one number more
pub map-push : (f : ℕ → ℕ) (xs : List ℕ) (x : ℕ) → total (map f (xs ++ x ∷ [])) ≡ total (map f xs) + f x
map-push f [] x = omega arith
map-push f (y ∷ xs) x = let rest = map-push f xs x in omega arith

-- none of the numbers to a lower one, and one of those to it or to a higher one
ones_none : (k n : ℕ) → n < k → total (ones k (numbers n)) ≡ 0
unfolding numbers
ones_none k zero low = refl
ones_none k (suc n) low =
    let other : nat_eq k (suc n) ≡ false = grind (arith, nat_tests) in
    map-push (λ c. cond (nat_eq k c) 1 0) (numbers n) (suc n) ∙ rw (ones_none k n (omega arith), other) refl

pub ones_one : (k n : ℕ) → 1 ≤ k → k ≤ n → total (ones k (numbers n)) ≡ 1
unfolding numbers
ones_one k zero one high = absurd (omega arith)
ones_one k (suc n) one high =
    map-push (λ c. cond (nat_eq k c) 1 0) (numbers n) (suc n) ∙ by_cases (nat_eq k (suc n))
    (λ here.
    let is : k ≡ suc n = grind (arith, nat_tests) in
    rw (ones_none k n (omega (arith, is)), here) refl)
    (λ there.
    let below : k ≤ n = grind (arith, nat_tests) in
    rw (ones_one k n one below, there) refl)

-- the sum over connections of how many of these states each sends
abbrev sums : List ℕ → List ℕ → ℕ
sums xs cs = total (map (λ (c : ℕ). length (filter (is_sender c) xs)) cs)

sums_none : (cs : List ℕ) → sums [] cs ≡ 0
sums_none [] = refl
sums_none (c ∷ cs) = let rest = sums_none cs in omega (arith, rest)

sums_more : (x : ℕ) (xs cs : List ℕ) → sums (x ∷ xs) cs ≡ total (ones (sender_of x) cs) + sums xs cs
sums_more x xs [] = refl
sums_more x xs (c ∷ cs) = one (nat_eq (sender_of x) c) (sums_more x xs cs)
  where
    one : (b : Bool) → sums (x ∷ xs) cs ≡ total (ones (sender_of x) cs) + sums xs cs
        → length (cond b (x ∷ filter (is_sender c) xs) (filter (is_sender c) xs)) + sums (x ∷ xs) cs ≡ (cond b 1 0 + total (ones (sender_of x) cs)) + (length (filter (is_sender c) xs) + sums xs cs)
    one true rest = omega (arith, rest)
    one false rest = omega (arith, rest)

-- the state is below 2 ^ 64, so that its sender is one of 64
abbrev is_state : ℕ → Bool
is_state x = nat_lt x (2 ^ 64)

sender_bounds : (x : ℕ) → x < 2 ^ 64 → (1 ≤ sender_of x) × (sender_of x ≤ 64)
sender_bounds x below = (omega arith, omega arith)

sums_all : (xs : List ℕ) → list_all is_state xs ≡ true → sums xs (numbers 64) ≡ length xs
sums_all [] below = sums_none (numbers 64)
sums_all (x ∷ xs) below =
    let first = and_left (is_state x) (list_all is_state xs) below in
    let small : x < 2 ^ 64 = grind (arith, nat_tests) in
    let bounds = sender_bounds x small in
    sums_more x xs (numbers 64) ∙ rw (ones_one (sender_of x) 64 bounds.0 bounds.1, sums_all xs (and_right (is_state x) (list_all is_state xs) below)) (plus_one (length xs))
  where
    plus_one : (n : ℕ) → 1 + n ≡ suc n
    plus_one n = omega arith

-- a step's state is below 2 ^ 64
step_below : (count state : ℕ) → state_after (suc count) state < 2 ^ 64
unfolding state_after
step_below count state = omega arith

states_below : (count state : ℕ) → list_all is_state (states count state) ≡ true
unfolding states
states_below zero state = refl
states_below (suc count) state =
    let small = step_below count state in
    let here : is_state (state_after (suc count) state) ≡ true = grind (arith, nat_tests) in
    list_all-append is_state (states count state) (state_after (suc count) state ∷ []) ∙ rw (states_below count state, here) refl

-- there are 8,000 messages in all
pub made_count : (seed : ℕ) → total (map (λ (c : ℕ). length (states_of c seed)) (numbers 64)) ≡ 8000
made_count seed = sums_all (states 8000 seed) (states_below 8000 seed) ∙ states_length 8000 seed
