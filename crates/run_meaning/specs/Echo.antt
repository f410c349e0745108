-- A handler that sends each message of the first route back, and what it makes of one connection.
use Rattle.std.specs.Prelude.{ℕ, List, [], ◌∷◌, ◌++◌, Bool, not, ◌&&◌, Option, None, nat_eq, if◌then◌else◌}
use Rattle.ws_kinds.specs.declared.note.Phase.{Phase}
use Rattle.ws_kinds.specs.NoteValue as note
use Rattle.ws_kinds.specs.NoteValue.{NoteValue}
use Rattle.ws_kinds.specs.EventValue as event
use Rattle.ws_kinds.specs.EventValue.{EventValue, WhatValue}
use Rattle.ws_kinds.specs.OrderValue.{OrderValue, send}
use Rattle.wire_meaning.specs.Answer.{Item}
use Rattle.run_meaning.specs.Notes.{is_of, window}
use Rattle.run_meaning.specs.Server.{Server, every_topic}
use Rattle.run_meaning.specs.Lines.{Line, moved, route_after, sends, data_frame, is_refused}

-- the orders that answer what happened on a connection of this route
abbrev pub echo_by : ℕ → ℕ → WhatValue → List OrderValue
echo_by conn route (event.message kind body) = if nat_eq route 0 then send conn kind body ∷ [] else []
echo_by conn route _ = []

-- each message of route 0 is sent back to its connection, as the same kind
abbrev pub echo_said : EventValue → List OrderValue
echo_said event = echo_by event.conn event.route event.what

-- this handler, which has no state, where every topic may be subscribed to, with these texts of replies
abbrev pub echo_server : (ℕ → List ℕ) → Server (Unit {0})
echo_server replies = record { start = tt; after = λ state _. state; said = λ _ event. echo_said event; admits = every_topic; reply = replies }

-- ---- one connection by itself

-- what is computed of a connection
pub record EchoLine : Type 0 where
  pub phase : Option Phase
  pub route : ℕ
  pub items : List Item

-- of a line, what is computed
abbrev pub echo_view : Line → EchoLine
echo_view line = record { phase = line.phase; route = line.route; items = line.items }

-- the message that is sent back, unless its order is refused
abbrev pub sent_back : ℕ → Bool → NoteValue → List Item
sent_back route refused (note.message conn kind body) = if nat_eq route 0 && not refused then data_frame kind body ∷ [] else []
sent_back route refused _ = []

-- a connection after a note of its own; `refused` says that the first order that answers it is not served
abbrev pub echo_own : List ℕ → Bool → NoteValue → EchoLine → EchoLine
echo_own reply refused this line = record {
  phase = moved line.phase this;
  route = route_after this line.route;
  items = line.items ++ (sends reply line.phase this ++ sent_back (route_after this line.route) refused this);
}

-- a connection after any note, which the notes `behind` follow
abbrev pub echo_after : List ℕ → ℕ → NoteValue → List NoteValue → EchoLine → EchoLine
echo_after reply conn this behind line = if is_of conn this then echo_own reply (is_refused (window behind) conn 0) this line else line

-- a connection after notes
abbrev pub echo_lines : List ℕ → ℕ → EchoLine → List NoteValue → EchoLine
echo_lines reply conn line [] = line
echo_lines reply conn line (first ∷ rest) =
    echo_lines reply conn (echo_after reply conn first rest line) rest

-- before the first note
abbrev pub echo_start : EchoLine
echo_start = record { phase = None; route = 0; items = [] }
