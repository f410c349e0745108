-- What a server sends, and what an echo sends, RFC 6455 sections 5.5 and 7; and what a client sends by the rules.
use Rattle.std.specs.Prelude.{◌≡◌, ℕ, Bool, true, false, ◌==◌, if◌then◌else◌, List, [], ◌∷◌, length, flat_map, None, IsUtf8}
use Rattle.std.specs.Int.{w16, to_be_bytes}
use Rattle.wire_meaning.specs.declared.frame.Opcode.{Opcode}
use Rattle.wire_meaning.specs.declared.frame.Opcode.TheVariants.{Continuation, Begins, Close, Ping, Pong, Reserved}
use Rattle.ws_kinds.specs.declared.kind.Kind.TheVariants.{Text}
use Rattle.wire_meaning.specs.Frame.{frame, masked_frame}
use Rattle.wire_meaning.specs.Event.{Event, message, ping, pong, closed, failed, closing}
use Rattle.wire_meaning.specs.Reading.{reading, IsAllowed}

-- what a server sends, piece by piece: the text of a reply to a handshake (4.2.2), or one whole frame
pub data Item : Type 0 where
  reply : (text : List ℕ) → Item
  whole : (opcode : Opcode) (payload : List ℕ) → Item

-- the octets of an item: its text, or the one unmasked frame with FIN 1 and the shortest length (5.1, 5.2)
abbrev pub spelled : Item → List ℕ
spelled (reply text) = text
spelled (whole opcode payload) = frame true opcode payload

-- the octets of these items, one after another
abbrev pub all_spelled : List Item → List ℕ
all_spelled items = flat_map spelled items

-- frames of data, pings and pongs may be dropped
abbrev pub is_droppable : Opcode → Bool
is_droppable Continuation = false
is_droppable (Begins kind) = true
is_droppable Close = false
is_droppable Ping = true
is_droppable Pong = true
is_droppable Reserved = false

-- the reply to a request for the upgrade, and a close frame, are never dropped: this server's choice
abbrev pub can_drop : Item → Bool
can_drop (reply text) = false
can_drop (whole opcode payload) = is_droppable opcode

-- the payload of a close frame with the code alone: the code in network order, and nothing for 1005, which may not be sent (7.4.1)
abbrev pub close_body : ℕ → List ℕ
close_body code = if code == 1005 then [] else to_be_bytes w16 code

-- A close frame with the code alone. That no reason is sent back with the code is this server's choice (5.5.1).
abbrev pub close_item : ℕ → Item
close_item code = whole Close (close_body code)

-- what an echo answers to an event: a message by itself, a ping by a pong with its payload (5.5.3), a pong by
-- nothing, and a close or a failure by the close frame with its code (5.5.1 and 7.1.7)
abbrev pub answers : Event → List Item
answers (message kind octets) = whole (Begins kind) octets ∷ []
answers (ping payload) = whole Pong payload ∷ []
answers (pong payload) = []
answers (closed code reason) = close_item code ∷ []
answers (failed code) = close_item code ∷ []

-- the octets that an echo sends for all octets that a client sent
abbrev pub echoed : ℕ → List ℕ → List ℕ
echoed max octets = all_spelled (flat_map answers (reading max octets))

-- ---- what a client sends

-- a client's frame that is no fragment (FIN 1), by its masking key, its opcode and its payload before it is masked
pub record Sent : Type 0 where
  pub key : List ℕ
  pub opcode : Opcode
  pub payload : List ℕ

-- the octets of such a frame
abbrev pub sent_octets : Sent → List ℕ
sent_octets sent = masked_frame sent.key true sent.opcode sent.payload

-- what such a frame says where no message is open; by the rules it is no continuation, nor is its opcode reserved
abbrev pub event_of : Opcode → List ℕ → Event
event_of (Begins kind) payload = message kind payload
event_of Ping payload = ping payload
event_of Pong payload = pong payload
event_of Close payload = closing payload
event_of Continuation payload = failed 1002
event_of Reserved payload = failed 1002

-- The frame keeps the rules: its key has 4 octets (5.3), the server takes it while no message is open, and a text is
-- UTF-8 (5.6).
pub record KeepsRules (max : ℕ) (sent : Sent) : Type 0 where
  pub key : length sent.key ≡ 4
  pub allowed : IsAllowed max None true sent.opcode (length sent.payload)
  pub text : sent.opcode ≡ Begins Text → IsUtf8 sent.payload
