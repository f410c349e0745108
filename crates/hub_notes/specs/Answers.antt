-- What the calls of a hub answer and note.
use Rattle.std.specs.Prelude.{◌≡◌, ◌<◌, ◌≤◌, ◌⊎◌, ℕ, List, [], ◌∷◌, Option, Some, Bool, true, false, IsTrue, length}
use Rattle.ws_kinds.specs.declared.note.Phase.TheVariants.{Open, Leaving}
use Rattle.ws_kinds.specs.declared.note.Phase.{Phase}
use Rattle.ws_kinds.specs.NoteValue as note
use Rattle.ws_kinds.specs.NoteValue.{NoteValue}
use Rattle.wire_meaning.specs.Event.{is_sendable}
use Rattle.hub_lines.specs.State.{Server}
use Rattle.hub_lines.specs.Calls.{Starts}
use Rattle.hub_notes.specs.Calls.{Advances}
use Rattle.hub_notes.specs.NetAfter.{FailsAfter}
use Rattle.hub_notes.specs.declared.arrival.Arrival.{Arrival}
use Rattle.hub_notes.specs.declared.arrival.Arrival.TheVariants.{Taken, Busy, Memory}

-- The call makes these notes and no others.
pub record Makes (notes : List NoteValue) (old new : Server) : Type 0 where
  pub advances : Advances notes old new
  pub fails : FailsAfter notes old.net new.net

-- a connection that comes is accepted unless there are as many as there may be; want of memory is free
abbrev pub Arrives : Arrival → ℕ → Server → Server → Type 0
Arrives Taken conn old new = (length old.hub.entries < old.hub.config.max_conns) × (new.hub.named ≡ conn) × Starts conn new × Makes (note.accepted conn ∷ []) old new
Arrives Busy conn old new = (length old.hub.entries ≡ old.hub.config.max_conns) × (new.hub ≡ old.hub) × Makes (note.busy conn ∷ []) old new
Arrives Memory conn old new = (length old.hub.entries < old.hub.config.max_conns) × (new.hub ≡ old.hub) × Makes (note.no_room conn ∷ []) old new

-- a connection of which frames are still read
abbrev pub has_frames : Option Phase → Bool
has_frames (Some Open) = true
has_frames (Some Leaving) = true
has_frames _ = false

-- a code and a reason that fit a close frame: none, told as 1005, or a code that may be sent and at most 123 octets
abbrev pub FitsCloseFrame : ℕ → List ℕ → Type 0
FitsCloseFrame code reason = ((code ≡ 1005) × (reason ≡ [])) ⊎ (IsTrue (is_sendable code) × (length reason ≤ 123))
