-- What became of an item or an order.
use Rattle.std.specs.Prelude.{◌≡◌, ◌≢◌, ◌<◌, ℕ, [], Option, Some, None, true, false, length, Result, Ok, Err}
use Rattle.ws_kinds.specs.declared.note.Why.{Why}
use Rattle.hub_lines.specs.State.{HubState, is_present, ring_at}
use Rattle.socket_core.specs.declared.socket.Kept.{Kept}
use Rattle.socket_core.specs.declared.socket.Kept.TheVariants.{Clear, Backlog, Dropped, Failed}

-- what became of an item that was put for a connection
abbrev pub TellsPut : Kept → ℕ → HubState → Type 0
TellsPut Clear conn hub = (is_present hub conn ≡ true) × (ring_at hub conn ≡ [])
TellsPut (Backlog held) conn hub = (is_present hub conn ≡ true) × (ring_at hub conn ≢ []) × (held ≡ length (ring_at hub conn))
TellsPut (Dropped held) conn hub = (is_present hub conn ≡ true) × (hub.config.limit < held) × (held ≡ length (ring_at hub conn))
TellsPut Failed conn hub = is_present hub conn ≡ false

-- the reason for which an order was refused, if it was
abbrev pub reason_of : {A : Type 0} → Result A Why → Option Why
reason_of (Ok answer) = None
reason_of (Err reason) = Some reason
