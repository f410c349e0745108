-- For how long a connection is quiet.
use Rattle.std.specs.Prelude.{◌≡◌, ◌≤◌, ◌+◌, ℕ, Bool, true, not, Option, Some, None, length, if◌then◌else◌}
use Rattle.ws_kinds.specs.ConfigValue.{ConfigValue}
use Rattle.ws_kinds.specs.declared.note.Phase.{Phase}
use Rattle.ws_kinds.specs.declared.note.Phase.TheVariants.{Gone}
use Rattle.idle_close.specs.QuietValue.{QuietValue, one_more}
use Rattle.run_meaning.specs.Quiet.{QuietCount, is_leaving}
use Rattle.hub_lines.specs.State.{Entry, Quiet}
use Rattle.backlog.specs.RingValue.{RingValue}
use Rattle.socket_core.specs.Items.{HasMemory}

abbrev pub or_zero : Option ℕ → ℕ
or_zero None = 0
or_zero (Some count) = count

-- the counts of a connection, as an entry of a hub shows them
abbrev pub quiet_of : QuietValue → Quiet
quiet_of quiet = record { ticks = quiet.ticks; leaving = or_zero quiet.leaving }

abbrev pub counts_of : Entry → QuietCount
counts_of entry = record { ticks = entry.quiet.ticks; leaving = entry.quiet.leaving }

-- the ticks since its leaving are counted exactly in the phases of one that leaves
abbrev pub leaves_as : Phase → Option ℕ → Bool
leaves_as Gone count = true
leaves_as phase None = not (is_leaving (Some phase))
leaves_as phase (Some count) = is_leaving (Some phase)

-- the counts have the numbers of the server, and go with the phase
pub record IsTimed (config : ConfigValue) (phase : Phase) (quiet : QuietValue) : Type 0 where
  pub ping_after : quiet.ping_after ≡ config.ping_after
  pub idle : quiet.idle ≡ config.idle
  pub leave : quiet.leave ≡ config.leave
  pub leaves : leaves_as phase quiet.leaving ≡ true

-- what a socket keeps
pub record IsSocket (config : ConfigValue) (phase : Phase) (room : ℕ) (ring : RingValue) (quiet : QuietValue) : Type 0 where
  pub memory : HasMemory config room ring
  pub timed : IsTimed config phase quiet

-- octets of the connection were read: its quiet ticks are counted again, unless it is leaving
abbrev pub heard_in : Phase → Quiet → Quiet
heard_in phase quiet = if is_leaving (Some phase) then quiet else record { ticks = 0; leaving = quiet.leaving }

abbrev pub heard_socket : Entry → Entry
heard_socket entry = record entry { quiet = heard_in entry.phase entry.quiet }

-- one more tick of it
abbrev pub ticked_in : Phase → Quiet → Quiet
ticked_in phase quiet = record { ticks = one_more quiet.ticks; leaving = if is_leaving (Some phase) then one_more quiet.leaving else quiet.leaving }

abbrev pub ticked_socket : Entry → Entry
ticked_socket entry = record entry { quiet = ticked_in entry.phase entry.quiet }
