-- Payloads of close frames, RFC 6455 sections 5.5.1 and 7.4.
use Rattle.std.specs.Prelude.{ℕ, IsTrue, List, [], ◌++◌, drop}
use Rattle.std.specs.Int.{w16, to_be_bytes}
use Rattle.wire_meaning.specs.Event.{Event, closed, failed, is_sendable}
use Rattle.frame_writer.specs.declared.close.Closing.{Closing}
use Rattle.frame_writer.specs.declared.close.Closing.TheVariants.{Empty, Code, Bad}

-- the code in network order, and the reason
abbrev pub close_octets : ℕ → List ℕ → List ℕ
close_octets code reason = to_be_bytes w16 code ++ reason

-- the event that a payload is by this answer: its reason is the payload without the code's two octets
abbrev pub event_of : List ℕ → Closing → Event
event_of payload Empty = closed 1005 []
event_of payload (Code code) = closed code (drop 2 payload)
event_of payload (Bad code) = failed code

-- a code in the answer may itself be sent
abbrev pub HasSendableCode : Closing → Type 0
HasSendableCode Empty = Unit {0}
HasSendableCode (Code code) = IsTrue (is_sendable code)
HasSendableCode (Bad code) = IsTrue (is_sendable code)
