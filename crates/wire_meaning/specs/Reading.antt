-- The reading of a client's octets by a server, RFC 6455 sections 5.1 to 5.6 and 8.1: one recursion on the whole list.
use Rattle.std.specs.Prelude.{◌≡◌, ℕ, zero, suc, ◌+◌, ◌^◌, ◌<◌, ◌≤◌, Bool, true, false, nat_lt, nat_le, ◌==◌, ◌&&◌, ◌||◌, not, if◌then◌else◌, List, [], ◌∷◌, ◌++◌, length, Option, None, Some, is_some, is_none}
use Rattle.std.specs.Str.{is_utf8}
use Rattle.ws_kinds.specs.declared.kind.Kind.{Kind}
use Rattle.ws_kinds.specs.declared.kind.Kind.TheVariants.{Text, Binary}
use Rattle.wire_meaning.specs.declared.frame.Opcode.{Opcode}
use Rattle.wire_meaning.specs.declared.frame.Opcode.TheVariants.{Continuation, Begins, Close, Ping, Pong, Reserved}
use Rattle.wire_meaning.specs.Mask.{unmasked}
use Rattle.wire_meaning.specs.Frame.{Opening, opening, is_final, has_reserved_bit, opcode_of, is_masked, seven_bits}
use Rattle.wire_meaning.specs.Text.{is_text_front}
use Rattle.wire_meaning.specs.Event.{Event, message, ping, pong, failed, closing}

-- a message whose last fragment has not come: its kind, and the octets of the fragments that came (5.4)
pub record Begun : Type 0 where
  pub kind : Kind
  pub octets : List ℕ

-- ---- what a server refuses in a frame
--
-- A part is judged as soon as all its octets are there, and not only when the frame has come. The standard says that
-- the connection fails then, and describes the codes (7.4.1); where in a frame a failure is seen, and the code of each,
-- is this server's choice.

-- an opcode that the standard has not given a meaning (5.2)
abbrev pub is_reserved : Opcode → Bool
is_reserved Reserved = true
is_reserved opcode = false

-- a close, a ping or a pong (5.5)
abbrev pub is_control : Opcode → Bool
is_control Close = true
is_control Ping = true
is_control Pong = true
is_control opcode = false

-- a frame of a message: a text or binary frame, or a continuation (5.4 and 5.6)
abbrev pub is_data : Opcode → Bool
is_data Continuation = true
is_data (Begins kind) = true
is_data opcode = false

-- A data frame out of its turn: a continuation where no message is open, or a text or binary frame where one is. So
-- at most one message is open, and fragments of two do not interleave (5.4).
abbrev pub is_out_of_turn : Option Begun → Opcode → Bool
is_out_of_turn begun Continuation = is_none begun
is_out_of_turn begun (Begins kind) = is_some begun
is_out_of_turn begun opcode = false

-- The first octet is refused: a reserved bit is 1, where no extension was agreed on, or the opcode is reserved (5.2);
-- a control frame has FIN 0, so is in fragments (5.5); or a data frame is out of its turn (5.4).
abbrev pub refuses_first : Option Begun → ℕ → Bool
refuses_first begun first =
    has_reserved_bit first || is_reserved (opcode_of first) || (is_control (opcode_of first) && not (is_final first)) || is_out_of_turn begun (opcode_of first)

-- the second octet is refused: a client's frame has no mask (5.1), or a control frame has more than 125 octets (5.5)
abbrev pub refuses_second : ℕ → ℕ → Bool
refuses_second first second = not (is_masked second) || (is_control (opcode_of first) && nat_le 126 (seven_bits second))

-- the octets of the open message so far; none where none is open
abbrev pub begun_octets : Option Begun → List ℕ
begun_octets None = []
begun_octets (Some begun) = begun.octets

-- with this data frame the message would have more than `max` octets (10.4 lets a server set such a limit)
abbrev pub is_over : ℕ → Option Begun → ℕ → ℕ → Bool
is_over max begun first size = is_data (opcode_of first) && nat_lt max (length (begun_octets begun) + size)

-- the part is there, and the test holds of it
abbrev pub part_is : Option ℕ → (ℕ → Bool) → Bool
part_is None test = false
part_is (Some part) test = test part

-- both parts are there, and the test holds of them
abbrev pub parts_are : Option ℕ → Option ℕ → (ℕ → ℕ → Bool) → Bool
parts_are None other test = false
parts_are (Some part) other test = part_is other (test part)

-- The code with which the connection fails at the first part from the left that is there and is refused, if there is
-- one: 1002, a protocol error, for the first octet, the second octet and a length whose top bit is 1 (5.2), and 1009,
-- too big, for a message over the limit (7.4.1).
abbrev pub breach : ℕ → Option Begun → Opening → Option ℕ
breach max begun o =
    if part_is o.first (refuses_first begun) then Some 1002
    else (if parts_are o.first o.second refuses_second then Some 1002
    else (if part_is o.size (nat_le (2 ^ 63)) then Some 1002
    else (if parts_are o.first o.size (is_over max begun) then Some 1009
    else None)))

-- ---- the frame at the front

-- What the frame at the front gives: nothing so far (`more`); the last event (`ends`); a message that is open behind
-- it, with the octets that follow (`opens`); or an event, with the message that is open behind it, and the octets
-- that follow (`gives`).
pub data Front : Type 0 where
  more : Front
  ends : (event : Event) → Front
  opens : (begun : Begun) (rest : List ℕ) → Front
  gives : (event : Event) (begun : Option Begun) (rest : List ℕ) → Front

-- the message is text, which has to be UTF-8 (5.6)
abbrev pub is_text : Kind → Bool
is_text Text = true
is_text Binary = false

-- A data frame with which the message's octets become `all`; `whole` says that the frame's payload is all there. A
-- text fails with 1007 (8.1 and 7.4.1) at the octet after which no continuation is UTF-8 any more, also within a
-- frame, or at its end: to see it that early is this server's choice. Otherwise a last fragment (FIN 1) tells the
-- message, and any other opens it.
abbrev pub data_front : Bool → Bool → Kind → List ℕ → List ℕ → Front
data_front final whole kind all rest =
    if is_text kind && not (is_text_front all) then ends (failed 1007)
    else (if not whole then more
    else (if not final then opens (record { kind = kind; octets = all }) rest
    else (if is_text kind && not (is_utf8 all) then ends (failed 1007)
    else gives (message kind all) None rest)))

-- The frame with this opcode and these payload octets, unmasked. A data frame joins its message (5.4); a ping, a pong
-- and a close, which may stand between fragments, are told when they are whole (5.5). The last line is never reached
-- behind `breach`, which refuses a reserved opcode and a data frame out of its turn.
abbrev pub frame_front : Option Begun → Bool → Opcode → Bool → List ℕ → List ℕ → Front
frame_front (Some begun) final Continuation whole payload rest = data_front final whole begun.kind (begun.octets ++ payload) rest
frame_front None final (Begins kind) whole payload rest = data_front final whole kind payload rest
frame_front begun final Ping whole payload rest = if whole then gives (ping payload) begun rest else more
frame_front begun final Pong whole payload rest = if whole then gives (pong payload) begun rest else more
frame_front begun final Close whole payload rest = if whole then ends (closing payload) else more
frame_front begun final opcode whole payload rest = ends (failed 1002)

-- the frame whose header is all there: its payload octets unmasked, from the key's first octet on; nothing so far
-- without it
abbrev pub body_front : Option Begun → Option ℕ → Option ℕ → Option (List ℕ) → List ℕ → List ℕ → Front
body_front begun (Some first) (Some size) (Some key) payload rest =
    frame_front begun (is_final first) (opcode_of first) (length payload == size) (unmasked key 0 payload) rest
body_front begun first size key payload rest = more

-- a breach comes before all else that the frame says
abbrev pub unless_breach : Option ℕ → Front → Front
unless_breach (Some code) front = ends (failed code)
unless_breach None front = front

-- what the frame at the front of these octets gives, under the limit `max`, while the message `begun` is open
abbrev pub front_at : ℕ → Option Begun → List ℕ → Front
front_at max begun octets = let o = opening octets in
    unless_breach (breach max begun o) (body_front begun o.first o.size o.key o.payload o.rest)

-- ---- the reading

-- the events from a front on, where `reads` reads what follows it
abbrev pub events_from : (Option Begun → List ℕ → List Event) → Front → List Event
events_from reads more = []
events_from reads (ends event) = event ∷ []
events_from reads (opens begun rest) = reads (Some begun) rest
events_from reads (gives event begun rest) = event ∷ reads begun rest

-- the events of at most so many frames
unfoldable pub reads_within : ℕ → ℕ → Option Begun → List ℕ → List Event
reads_within zero max begun octets = []
reads_within (suc count) max begun octets = events_from (reads_within count max) (front_at max begun octets)

-- The events of these octets while the message `begun` is open: those of the frame at the front, and then those of
-- what follows it, with the message open that is open behind it. There are no more frames than octets, so the count
-- bounds nothing: by the law `frame_by_frame`, `reads max begun octets ≡ events_from (reads max) (front_at max begun
-- octets)`.
unfoldable pub reads : ℕ → Option Begun → List ℕ → List Event
reads max begun octets = reads_within (length octets) max begun octets

-- the events of all octets that a client sent, from its first frame on
abbrev pub reading : ℕ → List ℕ → List Event
reading max octets = reads max None octets

-- This server takes a frame with these parts and so many payload octets while the message `begun` is open: `breach`
-- finds nothing in its header, masked and with no reserved bit.
pub record IsAllowed (max : ℕ) (begun : Option Begun) (final : Bool) (opcode : Opcode) (size : ℕ) : Type 0 where
  pub known : is_reserved opcode ≡ false
  pub in_turn : is_out_of_turn begun opcode ≡ false
  pub control_final : is_control opcode ≡ true → final ≡ true
  pub control_short : is_control opcode ≡ true → size ≤ 125
  pub data_fits : is_data opcode ≡ true → length (begun_octets begun) + size ≤ max
  pub small : size < 2 ^ 63
