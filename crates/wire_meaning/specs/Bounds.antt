-- What events a reading can give, RFC 6455 sections 5.5, 5.6 and 7.4.
use Rattle.std.specs.Prelude.{◌≡◌, ℕ, ◌≤◌, ◌⊎◌, ⊤, Bool, ◌==◌, ◌||◌, List, [], ◌∷◌, length, IsTrue, IsUtf8}
use Rattle.ws_kinds.specs.declared.kind.Kind.TheVariants.{Text}
use Rattle.wire_meaning.specs.Event.{Event, message, ping, pong, closed, failed, is_sendable}

-- what a close says: 1005 and no reason (7.1.5), or a code that may be sent and a UTF-8 reason of at most 123 octets (5.5.1)
abbrev pub IsClose : ℕ → List ℕ → Type 0
IsClose code reason = ((code ≡ 1005) × (reason ≡ [])) ⊎ (IsTrue (is_sendable code) × IsUtf8 reason × (length reason ≤ 123))

-- the codes with which this server fails a connection (7.4.1)
abbrev pub is_failure : ℕ → Bool
is_failure code = code == 1002 || code == 1007 || code == 1009

-- What can be told under the limit `max`: a message of at most so many octets, UTF-8 if it is text (5.6); a ping or a
-- pong of at most 125 octets (5.5); a close; or a failure.
abbrev pub CanBeTold : ℕ → Event → Type 0
CanBeTold max (message kind octets) = (length octets ≤ max) × (kind ≡ Text → IsUtf8 octets)
CanBeTold max (ping payload) = length payload ≤ 125
CanBeTold max (pong payload) = length payload ≤ 125
CanBeTold max (closed code reason) = IsClose code reason
CanBeTold max (failed code) = IsTrue (is_failure code)

-- a message, a ping or a pong has at most so many octets
abbrev pub IsShort : ℕ → Event → Type 0
IsShort most (message kind octets) = length octets ≤ most
IsShort most (ping payload) = length payload ≤ most
IsShort most (pong payload) = length payload ≤ most
IsShort most (closed code reason) = ⊤
IsShort most (failed code) = ⊤

abbrev pub AreShort : ℕ → List Event → Type 0
AreShort most [] = ⊤
AreShort most (event ∷ events) = IsShort most event × AreShort most events
