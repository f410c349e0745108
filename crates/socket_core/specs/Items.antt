-- What is put for a connection, and the item of those that a server sends which it is.
use Rattle.std.specs.Prelude.{◌≡◌, ◌≤◌, ◌+◌, ℕ, IsTrue, Bool, true, false, not, ◌==◌, ◌||◌, if◌then◌else◌, List, ◌++◌, length}
use Rattle.ws_kinds.specs.ConfigValue.{ConfigValue}
use Rattle.ws_kinds.specs.declared.kind.Kind.TheVariants.{Text, Binary}
use Rattle.wire_meaning.specs.declared.frame.Opcode.{Opcode}
use Rattle.wire_meaning.specs.declared.frame.Opcode.TheVariants.{Begins, Close}
use Rattle.wire_meaning.specs.Frame.{header, opcode_number}
use Rattle.wire_meaning.specs.Answer.{Item as Sent, reply, whole, spelled, can_drop as may_drop}
use Rattle.hub_lines.specs.State.{most_held}
use Rattle.backlog.specs.RingValue.{RingValue}
use Rattle.frame_writer.specs.Header.{is_sent_opcode}
use Rattle.socket_core.specs.declared.item.Item.{Item}
use Rattle.socket_core.specs.declared.item.Item.TheVariants.{Reply, Spelled, Frame}

-- the octets of an item: a frame's header and then its payload
abbrev pub octets_of : Item → List ℕ
octets_of (Reply text) = text.now
octets_of (Spelled frame) = frame.now
octets_of (Frame opcode payload) = header opcode (length payload.now) ++ payload.now

-- replies and close frames are never dropped
abbrev pub can_drop : Item → Bool
can_drop (Reply text) = false
can_drop (Spelled frame) = true
can_drop (Frame opcode payload) = not (opcode == opcode_number Close)

-- the item is this one of those that a server sends
abbrev pub IsSent : Item → Sent → Type 0
IsSent (Reply text) sent = sent ≡ reply text.now
IsSent (Spelled frame) sent = (may_drop sent ≡ true) × (spelled sent ≡ frame.now)
IsSent (Frame number payload) sent = IsTrue (is_sent_opcode number) × ((opcode : Opcode) × (opcode_number opcode ≡ number) × (sent ≡ whole opcode payload.now))

-- the most octets that a frame's payload has: those of a message, or 125 in a control frame (5.5)
abbrev pub longest_payload : ConfigValue → ℕ → ℕ
longest_payload config opcode = if opcode == opcode_number (Begins Text) || opcode == opcode_number (Begins Binary) then config.max_message else 125

-- an item that may be put after so many others
abbrev pub IsPuttable : ConfigValue → ℕ → Item → Type 0
IsPuttable config numbered (Reply text) = (1 ≤ length text.now) × (length text.now ≤ 256) × (numbered ≡ 0)
IsPuttable config numbered (Spelled frame) = (1 ≤ length frame.now) × (length frame.now ≤ config.max_message + 10)
IsPuttable config numbered (Frame opcode payload) = IsTrue (is_sent_opcode opcode) × (length payload.now ≤ longest_payload config opcode)

-- a room of so many octets is enough for it, and a frame has a header
abbrev pub HasRoom : ℕ → Item → Type 0
HasRoom room (Reply text) = length text.now ≤ room
HasRoom room (Spelled frame) = length frame.now ≤ room
HasRoom room (Frame opcode payload) = IsTrue (is_sent_opcode opcode) × (length payload.now ≤ 65536) × (10 + length payload.now ≤ room)

-- what a socket keeps: room for so many octets of one item, and a ring with room for all that may be held back
pub record HasMemory (config : ConfigValue) (room : ℕ) (ring : RingValue) : Type 0 where
  pub item : config.max_message + 256 ≤ room
  pub capacity : ring.capacity ≡ most_held config
  pub within : length ring.octets ≤ ring.capacity
