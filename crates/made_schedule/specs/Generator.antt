-- The generator of states.
use Rattle.std.specs.Prelude.{ℕ, zero, suc, ◌+◌, ◌*◌, ◌%◌, ◌^◌}

-- one step, modulo 2 ^ 64
abbrev pub next_state : ℕ → ℕ
next_state state = (state * 6364136223846793005 + 1442695040888963407) % 2 ^ 64

-- the state after so many steps
unfoldable pub state_after : ℕ → ℕ → ℕ
state_after zero state = state
state_after (suc steps) state = next_state (state_after steps state)
