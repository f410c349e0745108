-- What contracts see of a reader.
use Rattle.std.specs.Prelude.{ℕ, ◌+◌, ◌-◌, Bool, true, false, List, ◌++◌, length, drop, None, Some}
use Rattle.wire_meaning.specs.Event.{Event}
use Rattle.frame_reader.specs.declared.reader.Reader.{Reader}
use Rattle.frame_reader.specs.declared.reader.State.{State}
use Rattle.frame_reader.specs.declared.reader.State.TheVariants.{AtFrameStart, InDataFrame, Ended}
use Rattle.frame_reader.specs.State.{coming}

-- the octets that came and were not taken yet
abbrev pub raw_of : Reader → List ℕ
raw_of reader = drop reader.start reader.raw.items

-- the most octets that a message may have
abbrev pub max_of : Reader → ℕ
max_of reader = reader.max_message

-- the events that are still to be told, if these octets come
abbrev pub ahead : Reader → List ℕ → List Event
ahead reader more = coming reader.max_message reader.state reader.message.items (raw_of reader ++ more)

-- how many raw octets still fit
abbrev pub room_of : Reader → ℕ
room_of reader = reader.max_message + 8448 - length (raw_of reader)

abbrev pub is_end : State → Bool
is_end (AtFrameStart kind) = false
is_end (InDataFrame kind frame) = false
is_end Ended = true

-- a close or a failure was told
abbrev pub has_ended : Reader → Bool
has_ended reader = is_end reader.state

-- before a frame, with no message open
abbrev pub is_at_start : State → Bool
is_at_start (AtFrameStart None) = true
is_at_start (AtFrameStart (Some kind)) = false
is_at_start (InDataFrame kind frame) = false
is_at_start Ended = false

-- No frame is begun, no message is open, and no close or failure was told. What is ahead is then the reading of the
-- raw octets, of which nothing was read.
abbrev pub is_unread : Reader → Bool
is_unread reader = is_at_start reader.state
