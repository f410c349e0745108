-- What is ready to be read.
use Rattle.std.specs.Prelude.{◌≡◌, ◌≢◌, ℕ, Option, Some, true, false}
use Rattle.run_meaning.specs.Settled.{is_reading}
use Rattle.hub_lines.specs.State.{Server, phase_at}

-- of no connection of which octets are still to be read, but of the one that is being read, octets are ready
abbrev pub AreRead : Option ℕ → Server → Type 0
AreRead reading s = (conn : ℕ) → reading ≢ Some conn → is_reading (phase_at s.hub conn) ≡ true → s.net.due conn ≡ false
