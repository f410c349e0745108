-- Tests of notes.
use Rattle.std.specs.Prelude.{Bool, true, false, not, ◌&&◌}
use Rattle.ws_kinds.specs.NoteValue as note
use Rattle.ws_kinds.specs.NoteValue.{NoteValue}
use Rattle.run_meaning.specs.Notes.{is_acceptance}
use Rattle.run_meaning.specs.Performs.{is_outgoing}

-- the note says that the handler was told that a connection left Open
abbrev pub is_closed : NoteValue → Bool
is_closed (note.closed conn code reason) = true
is_closed _ = false

-- in no phase the note sends anything to its connection
abbrev pub is_wordless : NoteValue → Bool
is_wordless (note.opened conn route param) = false
is_wordless (note.head conn status) = false
is_wordless (note.ping_got conn body) = false
is_wordless (note.pinged conn) = false
is_wordless (note.peer_close conn code reason) = false
is_wordless (note.failed conn code) = false
is_wordless _ = true

-- nor does it move its connection, nor say that the handler was told that it left Open, that its link took octets, or that
-- an item of it was dropped
abbrev pub is_aside : NoteValue → Bool
is_aside note.turn = true
is_aside note.tick = true
is_aside (note.busy conn) = true
is_aside (note.no_room conn) = true
is_aside (note.given conn count) = true
is_aside (note.message conn kind body) = true
is_aside (note.pong_got conn body) = true
is_aside (note.unserved conn order why) = true
is_aside (note.told conn dropped drained) = true
is_aside _ = false

-- the note sends nothing, nor does it say that a connection was accepted or that the handler was told of an end
abbrev pub is_quiet : NoteValue → Bool
is_quiet this = is_wordless this && (not (is_acceptance this) && not (is_closed this))

-- the note is made while the orders of an event are served: an order is not served, or it says what became of octets that
-- were to be sent
abbrev pub is_of_orders : NoteValue → Bool
is_of_orders (note.unserved conn order why) = true
is_of_orders this = is_outgoing this
