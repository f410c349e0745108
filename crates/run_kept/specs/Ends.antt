-- The end of a turn, and the links of those who are there.
use Rattle.std.specs.Prelude.{◌≡◌, ℕ, List, [], Bool, true, false, if◌then◌else◌}
use Rattle.ws_kinds.specs.NoteValue as note
use Rattle.ws_kinds.specs.NoteValue.{NoteValue}
use Rattle.run_meaning.specs.Settled.{is_sudden}
use Rattle.hub_lines.specs.State.{HubState, Server, is_present, ring_at}

-- the note may stand at the end of a turn, before the note of the turn: octets went out, an item was dropped, or a connection
-- is gone, neither by its peer's end nor since it was quiet
abbrev pub is_late : NoteValue → Bool
is_late (note.took conn offered took) = true
is_late (note.dropped conn index held) = true
is_late (note.gone conn left) = is_sudden left
is_late _ = false

-- each connection that is live is an entry that is not gone
abbrev pub AreThere : Server → Type 0
AreThere s = (conn : ℕ) → s.net.live conn ≡ true → is_present s.hub conn ≡ true

-- the octets that the connection's link did not take, as long as it is not gone
abbrev pub backlog_at : HubState → ℕ → List ℕ
backlog_at hub conn = if is_present hub conn then ring_at hub conn else []
