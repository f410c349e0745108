-- Where a reader stands, and what is told from there on.
use Rattle.std.specs.Prelude.{ℕ, Bool, false, List, [], Option, None, Some}
use Rattle.ws_kinds.specs.declared.kind.Kind.{Kind}
use Rattle.wire_meaning.specs.Event.{Event}
use Rattle.wire_meaning.specs.Reading.{Begun, is_text, events_from, reads}
use Rattle.frame_reader.specs.declared.data_frame.DataFrame.{DataFrame}
use Rattle.frame_reader.specs.declared.reader.State.{State}
use Rattle.frame_reader.specs.declared.reader.State.TheVariants.{AtFrameStart, InDataFrame, Ended}
use Rattle.frame_reader.specs.Middle.{Middle, middle_front}

-- the payload octets that are still to come
abbrev pub left_of : State → ℕ
left_of (AtFrameStart kind) = 0
left_of (InDataFrame kind frame) = frame.left
left_of Ended = 0

-- a text is open
abbrev pub is_text_open : State → Bool
is_text_open (AtFrameStart None) = false
is_text_open (AtFrameStart (Some kind)) = is_text kind
is_text_open (InDataFrame kind frame) = is_text kind
is_text_open Ended = false

-- the open message, of this kind and with these octets
abbrev pub begun_of : Option Kind → List ℕ → Option Begun
begun_of None octets = None
begun_of (Some kind) octets = Some (record { kind = kind; octets = octets })

-- the frame that a reader is in, behind these octets of its message
abbrev pub middle_of : Kind → DataFrame → List ℕ → Middle
middle_of kind frame all = record { final = frame.is_final; kind = kind; all = all; left = frame.left; key = frame.key; place = frame.place }

-- what is told of these octets, where the message has those
abbrev pub coming : ℕ → State → List ℕ → List ℕ → List Event
coming max (AtFrameStart kind) message octets = reads max (begun_of kind message) octets
coming max (InDataFrame kind frame) message octets = events_from (reads max) (middle_front (middle_of kind frame message) octets)
coming max Ended message octets = []

-- what falls with each part that tells nothing, beside the octets
abbrev pub weight : State → ℕ
weight (AtFrameStart kind) = 1
weight (InDataFrame kind frame) = 2
weight Ended = 0
