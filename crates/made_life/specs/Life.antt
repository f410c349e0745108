-- What is heard of the connections of a made schedule.
use Rattle.std.specs.Prelude.{ℕ, Bool, true, false, List, ◌∷◌, map, codes}
use Rattle.ws_kinds.specs.declared.kind.Kind.TheVariants.{Text}
use Rattle.ws_kinds.specs.declared.note.Why.{Why}
use Rattle.ws_kinds.specs.declared.note.Why.TheVariants.{Memory}
use Rattle.ws_kinds.specs.NoteValue as note
use Rattle.ws_kinds.specs.NoteValue.{NoteValue}
use Rattle.wire_meaning.specs.Event as wire
use Rattle.bus_handler.specs.Bus.{room_route}
use Rattle.made_schedule.specs.Message.{body_of}
use Rattle.run_meaning.specs.Life.{Heard, refused, opened, read}
use Rattle.made_life.specs.Sending.{states_of}

-- the room m
abbrev pub room : List ℕ
room = codes "m"

-- all that is heard of a connection: it is opened on the room, and its messages are read
abbrev pub made_life : ℕ → ℕ → List Heard
made_life conn seed = opened room_route room ∷ map (λ state. read (wire.message Text (body_of state))) (states_of conn seed)

-- nothing ends by what was heard: it is no refusal, no close and no failure
abbrev pub goes_on : Heard → Bool
goes_on (refused status) = false
goes_on (opened route param) = true
goes_on (read (wire.message kind body)) = true
goes_on (read (wire.ping body)) = true
goes_on (read (wire.pong body)) = true
goes_on (read (wire.closed code reason)) = false
goes_on (read (wire.failed code)) = false

-- the note says that a message was read
abbrev pub is_message : NoteValue → Bool
is_message (note.message conn kind body) = true
is_message _ = false

-- the note says that an item was dropped
abbrev pub is_drop : NoteValue → Bool
is_drop (note.dropped conn index held) = true
is_drop _ = false

-- a message was heard
abbrev pub is_message_heard : Heard → Bool
is_message_heard (read (wire.message kind body)) = true
is_message_heard _ = false

abbrev pub is_memory : Why → Bool
is_memory Memory = true
is_memory _ = false

-- the note says that memory was short for a connection, or for a subscription
abbrev pub is_want : NoteValue → Bool
is_want (note.no_room conn) = true
is_want (note.unserved conn order why) = is_memory why
is_want _ = false
