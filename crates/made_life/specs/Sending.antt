-- Who sends what in the schedule that a seed makes.
use Rattle.std.specs.Prelude.{ℕ, zero, suc, Bool, List, [], ◌∷◌, ◌++◌, nat_eq}
use Rattle.std.specs.List.{filter}
use Rattle.made_schedule.specs.Generator.{state_after}
use Rattle.made_schedule.specs.Message.{sender_of}

-- the states of so many steps, from a state on
unfoldable pub states : ℕ → ℕ → List ℕ
states zero state = []
states (suc count) state = states count state ++ state_after (suc count) state ∷ []

-- this connection sends the message that the state gives
abbrev pub is_sender : ℕ → ℕ → Bool
is_sender conn state = nat_eq (sender_of state) conn

-- of the states of a seed, those whose messages this connection sends
abbrev pub states_of : ℕ → ℕ → List ℕ
states_of conn seed = filter (is_sender conn) (states 8000 seed)

-- the numbers from 1 to a number
unfoldable pub numbers : ℕ → List ℕ
numbers zero = []
numbers (suc count) = numbers count ++ suc count ∷ []
