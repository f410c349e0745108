-- Notes by which nothing is heard and nobody comes.
use Rattle.std.specs.Prelude.{Bool, true, false}
use Rattle.ws_kinds.specs.NoteValue as note
use Rattle.ws_kinds.specs.NoteValue.{NoteValue}

-- the note says that time went by, that a turn ended, that a connection was turned away or is gone, or what became of octets
-- that were to be sent
abbrev pub is_passing : NoteValue → Bool
is_passing note.turn = true
is_passing note.tick = true
is_passing (note.busy conn) = true
is_passing (note.no_room conn) = true
is_passing (note.took conn offered took) = true
is_passing (note.dropped conn index held) = true
is_passing (note.gone conn left) = true
is_passing _ = false

-- the note is such a one, or says that a connection was sent a ping, that the handler was told something but what was heard, or
-- that an order is not served
abbrev pub is_idle : NoteValue → Bool
is_idle (note.pinged conn) = true
is_idle (note.told conn dropped drained) = true
is_idle (note.closed conn code reason) = true
is_idle (note.unserved conn order why) = true
is_idle this = is_passing this
