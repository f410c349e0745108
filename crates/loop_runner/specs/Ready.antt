-- What holds between turns.
use Rattle.std.specs.Prelude.{◌≡◌, ◌≤◌, ⊤, ℕ, [], Option, Some, true, false, length}
use Rattle.ws_kinds.specs.declared.note.Phase.{Phase}
use Rattle.ws_kinds.specs.declared.note.Phase.TheVariants.{Head, Open, Leaving}
use Rattle.run_meaning.specs.Settled.{is_reading}
use Rattle.frame_reader.specs.declared.reader.Reader.{Reader}
use Rattle.frame_reader.specs.Reader as reader
use Rattle.frame_reader.specs.Reader.{raw_of, ahead, has_ended, is_unread}
use Rattle.hub_lines.specs.State.{Server, has_entry, phase_at}
use Rattle.hub_lines.specs.Calls.{Ties, Settled, ShortRings}
use Rattle.hub_notes.specs.Fronts.{RingsWait}
use Rattle.loop_runner.specs.declared.intakes.Intake.{Intake}
use Rattle.loop_runner.specs.declared.intakes.Intakes.{Intakes}
use Rattle.loop_runner.specs.Intakes.{max_of, intake_at, is_admitted}

-- all frames that came were taken
abbrev pub IsDrained : Reader → Type 0
IsDrained reader = (has_ended reader ≡ false) × (ahead reader [] ≡ []) × (length (raw_of reader) ≤ 130)

-- all that came of a connection in this phase was taken, but for what waits for more octets
abbrev pub IsTaken : Option Phase → Reader → Type 0
IsTaken (Some Head) reader = (is_unread reader ≡ true) × (length (raw_of reader) ≤ 8191)
IsTaken (Some Open) reader = IsDrained reader
IsTaken (Some Leaving) reader = IsDrained reader
IsTaken _ reader = ⊤

-- no connection of which octets are still to be read is due
abbrev pub IsAsked : ℕ → Server → Type 0
IsAsked conn s = is_reading (phase_at s.hub conn) ≡ true → s.net.due conn ≡ false

-- what holds of hub, intakes, net and watch before and after a turn
pub record Ready (intakes : Intakes) (s : Server) : Type 0 where
  pub max : s.hub.config.max_message ≡ max_of intakes
  -- the entries and the intakes are the same connections
  pub entries : (conn : ℕ) → has_entry s.hub.entries conn ≡ is_admitted intakes conn
  pub ties : Ties s
  -- the net named every number that was accepted
  pub named : s.hub.named ≤ s.net.named
  pub settled : Settled s.hub
  pub short : ShortRings s
  pub waits : RingsWait s
  pub asked : (conn : ℕ) → IsAsked conn s
  pub readers : (conn : ℕ) (intake : Intake) → intake_at intakes conn ≡ Some intake → reader.max_of intake.reader ≡ max_of intakes
  pub taken : (conn : ℕ) (intake : Intake) → intake_at intakes conn ≡ Some intake → IsTaken (phase_at s.hub conn) intake.reader
