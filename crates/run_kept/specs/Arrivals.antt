-- What is noted of a connection that comes.
use Rattle.std.specs.Prelude.{ℕ}
use Rattle.ws_kinds.specs.NoteValue as note
use Rattle.ws_kinds.specs.NoteValue.{NoteValue}
use Rattle.hub_notes.specs.declared.arrival.Arrival.{Arrival}
use Rattle.hub_notes.specs.declared.arrival.Arrival.TheVariants.{Taken, Busy, Memory}

-- the note of a connection that came, by the answer of the hub
abbrev pub arrival_note : Arrival → ℕ → NoteValue
arrival_note Taken conn = note.accepted conn
arrival_note Busy conn = note.busy conn
arrival_note Memory conn = note.no_room conn
