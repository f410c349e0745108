-- What is told of the header at the front of some octets.
use Rattle.std.specs.Prelude.{◌≡◌, ℕ, ◌+◌, ◌≤◌, true, false, ◌==◌, List, [], ◌++◌, length, take, drop, Option, None, Some}
use Rattle.ws_kinds.specs.declared.kind.Kind.{Kind}
use Rattle.wire_meaning.specs.Mask.{unmasked}
use Rattle.wire_meaning.specs.Event.{failed}
use Rattle.wire_meaning.specs.Reading.{Begun, Front, more, ends, is_control, is_data, is_reserved, is_out_of_turn, begun_octets, frame_front, front_at}
use Rattle.wire_meaning.specs.declared.frame.Opcode.{Opcode}
use Rattle.wire_meaning.specs.declared.frame.Opcode.TheVariants.{Continuation, Begins}
use Rattle.frame_reader.specs.declared.header.MessageState.{MessageState}
use Rattle.frame_reader.specs.declared.header.FrameHeader.{FrameHeader}
use Rattle.frame_reader.specs.declared.header.Header.{Header}
use Rattle.frame_reader.specs.declared.header.Header.TheVariants as header

-- a message of this kind that is open, with no octets so far
abbrev pub opened : Option Kind → Option Begun
opened None = None
opened (Some kind) = Some (record { kind = kind; octets = [] })

-- this is what a frame is checked against where this message is open
abbrev pub Describes : MessageState → Option Begun → Type 0
Describes message None = (message.kind ≡ None) × (message.held ≡ 0)
Describes message (Some begun) = (message.kind ≡ Some begun.kind) × (message.held ≡ length begun.octets)

-- the frame behind the header, if these octets follow it
abbrev pub behind : Option Begun → FrameHeader → List ℕ → Front
behind begun h octets =
    frame_front begun h.is_final h.opcode (length (take h.size octets) == h.size) (unmasked h.key 0 (take h.size octets)) (drop h.size octets)

pub record IsHeader (max : ℕ) (begun : Option Begun) (raw : List ℕ) (h : FrameHeader) : Type 0 where
  pub some : 2 ≤ h.length
  pub within : h.length ≤ length raw
  pub front : (ys : List ℕ) → front_at max begun (raw ++ ys) ≡ behind begun h (drop h.length raw ++ ys)
  pub control : is_control h.opcode ≡ true → (h.length ≡ 6) × (h.size ≤ 125)
  pub known : is_reserved h.opcode ≡ false
  pub in_turn : is_out_of_turn begun h.opcode ≡ false
  pub data_fits : is_data h.opcode ≡ true → length (begun_octets begun) + h.size ≤ max

abbrev pub HeaderIs : ℕ → Option Begun → List ℕ → Header → Type 0
HeaderIs max begun raw header.More = (front_at max begun raw ≡ more) × (length raw ≤ 13)
HeaderIs max begun raw (header.Refused code) = front_at max begun raw ≡ ends (failed code)
HeaderIs max begun raw (header.Whole h) = IsHeader max begun raw h

-- the kind of the message that a data frame in its turn belongs to, where a message of this kind is open
abbrev pub kind_in : Option Kind → Opcode → Option Kind
kind_in None (Begins kind) = Some kind
kind_in (Some kind) Continuation = Some kind
kind_in kind opcode = None
