-- Notes that do not come of a read, and notes in which a connection is not counted.
use Rattle.std.specs.Prelude.{ℕ, Bool, true, false, not, ◌||◌}
use Rattle.ws_kinds.specs.declared.note.Left.TheVariants.{PeerEnd}
use Rattle.ws_kinds.specs.NoteValue as note
use Rattle.ws_kinds.specs.NoteValue.{NoteValue}
use Rattle.run_meaning.specs.Notes.{is_left, is_of}
use Rattle.run_meaning.specs.Right.{is_arrival}

-- the note says neither that a connection was accepted, nor that octets were read, nor that a peer ended
abbrev pub is_unread : NoteValue → Bool
is_unread (note.accepted conn) = false
is_unread (note.given conn count) = false
is_unread (note.gone conn left) = not (is_left PeerEnd left)
is_unread _ = true

-- the note says of this connection at most that it came
abbrev pub is_at_most_arrival : ℕ → NoteValue → Bool
is_at_most_arrival conn this = not (is_of conn this) || is_arrival this
