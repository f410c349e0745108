-- Some runs of one connection, for a handler that says nothing.
use Rattle.std.specs.Prelude.{ℕ, List, [], ◌∷◌, ◌++◌, true, false}
use Rattle.ws_kinds.specs.declared.note.Left.TheVariants.{PeerEnd}
use Rattle.ws_kinds.specs.NoteValue as note
use Rattle.ws_kinds.specs.NoteValue.{NoteValue}
use Rattle.run_meaning.specs.Server.{Server}

-- each request is answered by three octets
abbrev pub silent : Server ℕ
silent = record { start = 0; after = λ state event. state; said = λ state event. []; admits = λ topic. true; reply = λ conn. 1 ∷ 2 ∷ 3 ∷ [] }

-- the connection is opened, and its link takes one octet of the reply
abbrev pub begun : List NoteValue
begun = note.accepted 1 ∷ note.given 1 9 ∷ note.opened 1 0 [] ∷ note.took 1 3 1 ∷ note.turn ∷ []

-- its link takes the others
abbrev pub emptied : List NoteValue
emptied = begun ++ note.took 1 2 2 ∷ note.turn ∷ []

-- the handler is told of that
abbrev pub emptied_told : List NoteValue
emptied_told = emptied ++ note.told 1 0 true ∷ note.turn ∷ []

-- then a pong is dropped, though nothing is held
abbrev pub dropped_empty : List NoteValue
dropped_empty = emptied_told ++ note.ping_got 1 [] ∷ note.dropped 1 1 9 ∷ note.turn ∷ []

-- a pong is dropped while two octets are held
abbrev pub dropped_held : List NoteValue
dropped_held = begun ++ note.ping_got 1 [] ∷ note.dropped 1 1 2 ∷ note.turn ∷ []

-- the handler is told of that, and then the link takes the two octets
abbrev pub held_emptied : List NoteValue
held_emptied = dropped_held ++ note.told 1 1 false ∷ note.took 1 2 2 ∷ note.turn ∷ []

-- the connection is gone
abbrev pub gone : List NoteValue
gone = dropped_held ++ note.gone 1 PeerEnd ∷ []
