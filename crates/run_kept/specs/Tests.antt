-- Tests of notes.
use Rattle.std.specs.Prelude.{ℕ, Bool, true, false, not, ◌&&◌}
use Rattle.ws_kinds.specs.declared.note.Left.TheVariants.{Finished}
use Rattle.ws_kinds.specs.NoteValue as note
use Rattle.ws_kinds.specs.NoteValue.{NoteValue}
use Rattle.run_meaning.specs.Notes.{is_left, is_of, is_unserved}

-- The note is of a connection that has a phase and is not gone, if it is of one. It says neither that something came from
-- outside, nor that a connection is finished, nor what may be said of one that is gone.
abbrev pub is_inner : NoteValue → Bool
is_inner (note.accepted conn) = false
is_inner (note.busy conn) = false
is_inner (note.no_room conn) = false
is_inner (note.given conn count) = false
is_inner note.tick = false
is_inner (note.unserved conn order why) = false
is_inner (note.closed conn code reason) = false
is_inner (note.gone conn left) = not (is_left Finished left)
is_inner _ = true

-- the note says that an order of this connection is not served
abbrev pub is_refusal_of : ℕ → NoteValue → Bool
is_refusal_of conn this = is_unserved this && is_of conn this

-- the note says that a connection is gone
abbrev pub is_departure : NoteValue → Bool
is_departure (note.gone conn left) = true
is_departure _ = false

-- the note says that a connection is gone or that a turn ended
abbrev pub is_at_end : NoteValue → Bool
is_at_end note.turn = true
is_at_end (note.gone conn left) = true
is_at_end _ = false
