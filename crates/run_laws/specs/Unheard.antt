-- Which notes say that something was heard of a peer.
use Rattle.std.specs.Prelude.{ℕ, Bool, true, false, not, ◌&&◌}
use Rattle.ws_kinds.specs.NoteValue as note
use Rattle.ws_kinds.specs.NoteValue.{NoteValue}
use Rattle.wire_meaning.specs.Event as wire
use Rattle.wire_meaning.specs.Event.{Event}
use Rattle.run_meaning.specs.Notes.{is_of}

-- the note says that something was heard: a request that is refused or admitted, or the event of a frame
abbrev pub is_hearing : NoteValue → Bool
is_hearing (note.head conn status) = true
is_hearing (note.opened conn route param) = true
is_hearing (note.message conn kind body) = true
is_hearing (note.ping_got conn body) = true
is_hearing (note.pong_got conn body) = true
is_hearing (note.peer_close conn code reason) = true
is_hearing (note.failed conn code) = true
is_hearing _ = false

-- the note says of nothing that it was heard of this connection
abbrev pub is_unheard : ℕ → NoteValue → Bool
is_unheard conn this = not (is_hearing this && is_of conn this)

-- the note of an event that was read of a connection
abbrev pub note_of_event : ℕ → Event → NoteValue
note_of_event conn (wire.message kind body) = note.message conn kind body
note_of_event conn (wire.ping body) = note.ping_got conn body
note_of_event conn (wire.pong body) = note.pong_got conn body
note_of_event conn (wire.closed code reason) = note.peer_close conn code reason
note_of_event conn (wire.failed code) = note.failed conn code
