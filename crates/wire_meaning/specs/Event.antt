-- What a peer's octets say, RFC 6455 sections 5.5, 5.6 and 7.4.
use Rattle.std.specs.Prelude.{ℕ, Bool, true, false, nat_le, ◌==◌, ◌&&◌, ◌||◌, not, if◌then◌else◌, List, [], take, drop, length}
use Rattle.std.specs.Int.{w16, from_be_bytes}
use Rattle.std.specs.Str.{is_utf8}
use Rattle.ws_kinds.specs.declared.kind.Kind.{Kind}

-- What is told of a peer, one after another: a whole message (5.6), a ping (5.5.2), a pong (5.5.3), a close with its
-- code and reason (5.5.1), or that the connection fails, and the code with which it does (7.1.7). All octets are
-- unmasked.
pub data Event : Type 0 where
  message : (kind : Kind) (octets : List ℕ) → Event
  ping : (payload : List ℕ) → Event
  pong : (payload : List ℕ) → Event
  closed : (code : ℕ) (reason : List ℕ) → Event
  failed : (code : ℕ) → Event

-- The codes that a close frame may carry: 1000 to 1003, 1007 to 1014 and 3000 to 4999 (7.4). The standard forbids
-- 1005, 1006 and 1015 in a frame and reserves 1004. That codes which nobody has defined, as 1016 to 2999, are refused
-- is this server's choice.
abbrev pub is_sendable : ℕ → Bool
is_sendable code = (nat_le 1000 code && nat_le code 1003) || (nat_le 1007 code && nat_le code 1014) || (nat_le 3000 code && nat_le code 4999)

-- the first two octets of a close frame's payload, a number in network order (5.5.1)
abbrev pub close_code : List ℕ → ℕ
close_code payload = from_be_bytes w16 (take 2 payload)

-- What the payload of a close frame says: its code and its reason, or 1005 and no reason where it is empty (5.5.1,
-- 7.1.5). It fails where it is one octet, the code may not be sent or the reason is not UTF-8. That the first two
-- fail with 1002 and the last with 1007 (7.4.1) is this server's choice.
abbrev pub closing : List ℕ → Event
closing payload =
    if length payload == 0 then closed 1005 []
    else (if length payload == 1 then failed 1002
    else (if not (is_sendable (close_code payload)) then failed 1002
    else (if not (is_utf8 (drop 2 payload)) then failed 1007
    else closed (close_code payload) (drop 2 payload))))

-- nothing is read after a close (5.5.1) or a failure (7.1.7)
abbrev pub is_last : Event → Bool
is_last (message kind octets) = false
is_last (ping payload) = false
is_last (pong payload) = false
is_last (closed code reason) = true
is_last (failed code) = true
