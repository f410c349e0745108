-- Some runs of one connection, for a handler that says nothing.
use Rattle.std.specs.Prelude.{ℕ, List, [], ◌∷◌, ◌++◌, true}
use Rattle.ws_kinds.specs.declared.note.Left.TheVariants.{Idle}
use Rattle.ws_kinds.specs.ConfigValue.{ConfigValue, config_of}
use Rattle.ws_kinds.specs.NoteValue as note
use Rattle.ws_kinds.specs.NoteValue.{NoteValue}
use Rattle.run_meaning.specs.Server.{Server}

abbrev pub silent : Server ℕ
silent = record { start = 0; after = λ state event. state; said = λ state event. []; admits = λ topic. true; reply = λ conn. [] }

-- a ping is due after two quiet ticks, an end after three, and after two ticks of leaving
abbrev pub quick : ConfigValue
quick = config_of 16384 65536 2 3 2 1024

-- the connection is opened after a tick
abbrev pub opened : List NoteValue
opened = note.accepted 1 ∷ note.tick ∷ note.given 1 9 ∷ note.opened 1 0 [] ∷ note.turn ∷ []

-- one tick, so that one more makes a ping due
abbrev pub ticked : List NoteValue
ticked = opened ++ note.tick ∷ []

abbrev pub pinged : List NoteValue
pinged = ticked ++ note.tick ∷ note.pinged 1 ∷ []

-- it closes, and octets of it come after that
abbrev pub leaving : List NoteValue
leaving = ticked ++ note.given 1 6 ∷ note.tick ∷ note.peer_close 1 1000 [] ∷ note.tick ∷ note.given 1 6 ∷ []

-- it is shut as idle as it arrives, or at its first tick
abbrev pub shut_at_arrival : List NoteValue
shut_at_arrival = note.accepted 1 ∷ note.gone 1 Idle ∷ note.turn ∷ []

abbrev pub shut_at_first_tick : List NoteValue
shut_at_first_tick = note.accepted 1 ∷ note.tick ∷ note.gone 1 Idle ∷ note.turn ∷ []
