-- A connection is pinged and ended by ticks exactly when it is to be.
use Rattle.std.specs.Prelude.{◌≡◌, ◌≤◌, ◌+◌, ℕ, List, [], ◌∷◌, ◌++◌, Bool, true, false, ◌&&◌, ◌||◌, Option, nat_eq, if◌then◌else◌}
use Rattle.ws_kinds.specs.declared.note.Left.TheVariants.{Idle, LinkFailed}
use Rattle.ws_kinds.specs.declared.note.Phase.{Phase}
use Rattle.ws_kinds.specs.ConfigValue.{ConfigValue}
use Rattle.ws_kinds.specs.NoteValue as note
use Rattle.ws_kinds.specs.NoteValue.{NoteValue}
use Rattle.run_meaning.specs.Notes.{until, is_from_outside, is_left, is_gone_by, is_turn}
use Rattle.run_meaning.specs.Counts.{number_of, is_gone_by_in}
use Rattle.run_meaning.specs.Server.{Server}
use Rattle.run_meaning.specs.Lines.{is_open, phase}
use Rattle.run_meaning.specs.Orders.{is_away}
use Rattle.run_meaning.specs.Quiet.{QuietCount, is_leaving, is_tick, quiet}

-- the note says that a ping was sent to the connection since it was quiet
abbrev pub is_pinged : ℕ → NoteValue → Bool
is_pinged conn (note.pinged other) = nat_eq other conn
is_pinged conn _ = false

-- the note says that the connection was pinged, or ended, since it was quiet
abbrev pub is_by_tick : ℕ → NoteValue → Bool
is_by_tick conn this = is_pinged conn this || is_gone_by conn Idle this

-- the note tells of a tick, or of somebody who was pinged or ended by one
abbrev pub is_ticking : NoteValue → Bool
is_ticking note.tick = true
is_ticking (note.pinged conn) = true
is_ticking (note.gone conn left) = is_left Idle left
is_ticking _ = false

-- something else came from outside, or the turn ended
abbrev pub ends_stretch : NoteValue → Bool
ends_stretch this = is_from_outside this || is_turn this

-- of the notes behind a tick, those before something else comes
abbrev pub stretch : List NoteValue → List NoteValue
stretch notes = until ends_stretch notes

-- behind these notes the stretch of a tick goes on; `goes_on` tells whether it did so before them
abbrev pub in_stretch : Bool → List NoteValue → Bool
in_stretch goes_on [] = goes_on
in_stretch goes_on (first ∷ rest) = in_stretch (if ends_stretch first then is_tick first else goes_on) rest

-- one more tick makes a ping due, for a connection in this phase with these counts, and an end
abbrev pub is_ping_due : ConfigValue → Option Phase → QuietCount → Bool
is_ping_due config phase count = is_open phase && nat_eq (count.ticks + 1) config.ping_after

abbrev pub is_end_due : ConfigValue → Option Phase → QuietCount → Bool
is_end_due config phase count = nat_eq (count.ticks + 1) config.idle || (is_leaving phase && nat_eq (count.leaving + 1) config.leave)

abbrev pub one_if : Bool → ℕ
one_if due = if due then 1 else 0

-- A tick came while a connection was in this phase with these counts, and these notes are its stretch. It is pinged at most
-- once, and only where that is due. Where it was not gone before and its link does not fail in the stretch, it is pinged and
-- ended exactly where that is due.
pub record TicksRight (config : ConfigValue) (conn : ℕ) (phase : Option Phase) (count : QuietCount) (notes : List NoteValue) : Type 0 where
  pub pinged : number_of (is_pinged conn) notes ≤ one_if (is_ping_due config phase count)
  pub pings : is_away phase ≡ false → is_gone_by_in conn LinkFailed notes ≡ false → number_of (is_pinged conn) notes ≡ one_if (is_ping_due config phase count)
  pub ends : is_away phase ≡ false → is_gone_by_in conn LinkFailed notes ≡ false → is_gone_by_in conn Idle notes ≡ is_end_due config phase count

module _ {State : Type 0} (server : Server State) where
  -- Nobody is pinged or ended as idle outside of the stretches of ticks, and each tick is right for each connection.
  pub record Timely (config : ConfigValue) (notes : List NoteValue) : Type 0 where
    pub inside : (before rest : List NoteValue) (this : NoteValue) (conn : ℕ) → notes ≡ before ++ this ∷ rest → is_by_tick conn this ≡ true → in_stretch false before ≡ true
    pub right : (before rest : List NoteValue) (conn : ℕ) → notes ≡ before ++ note.tick ∷ rest → TicksRight config conn (phase server before conn) (quiet server before conn) (stretch rest)
