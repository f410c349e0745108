-- What the octets of a connection mean before it is open, RFC 6455 section 4.2.1.
use Rattle.std.specs.Prelude.{ℕ, Bool, ◌≡◌, ◌<◌, ◌≤◌, ◌&&◌, ◌==◌, ◌⊎◌, not, List, [], length, take, codes, nat_lt, slice_get, unwrap_or, MatchOption, IsTrue, Option, Some, None, if◌then◌else◌}
use Rattle.std.specs.List.{before_first}
use Rattle.std.specs.Str.{bytes_eq, is_utf8}
use Rattle.httparse.specs.Grammar.{RequestHead}
use Rattle.route_table.specs.Table.{RouteTable, found}
use Rattle.upgrade_head.specs.declared.word.Letters.TheVariants.{AnyCase, AsWritten}
use Rattle.upgrade_head.specs.Field.{FieldList, fields_of, has_field, has_value, has_element}
use Rattle.upgrade_head.specs.Head.{head_end, IsHead, IsWholeHead}
use Rattle.upgrade_head.specs.Key.{key_of, accept_text}
use Rattle.upgrade_head.specs.Texts.{reply_text, is_refusal, refusal_text}

-- what is decided of a connection: more octets are needed; it is open, with the end of the head, the route and its
-- first parameter, the accept value, and whether the route's subprotocol is answered; or it is refused with a status
pub data Verdict : Type 0 where
  more : Verdict
  admit : ℕ → ℕ → List ℕ → List ℕ → Bool → Verdict
  refuse : ℕ → Verdict

-- the method is GET and the version HTTP/1.1
abbrev pub is_get : RequestHead → Bool
is_get head = bytes_eq head.method (codes "GET") && head.minor == 1

-- a field `Host`, the element `websocket` in a field `Upgrade`, and the element `upgrade` in a field `Connection`
abbrev pub asks_to_upgrade : FieldList → Bool
asks_to_upgrade fields =
    has_field (codes "Host") fields
    && has_element AnyCase (codes "Upgrade") (codes "websocket") fields
    && has_element AnyCase (codes "Connection") (codes "upgrade") fields

-- version 13 of the protocol
abbrev pub has_version : FieldList → Bool
has_version fields = has_value (codes "Sec-WebSocket-Version") (codes "13") fields

-- the path of a request target: what stands before its first question mark, or all of it
abbrev pub path_of : List ℕ → List ℕ
path_of target = before_first (λ octet. octet == 63) target

-- the client offers this subprotocol, which is not empty
abbrev pub is_offered : List ℕ → FieldList → Bool
is_offered protocol fields =
    not (length protocol == 0) && has_element AsWritten (codes "Sec-WebSocket-Protocol") protocol fields

-- the route of a path and its first parameter; a path that is not UTF-8 has no route
abbrev pub route_of : RouteTable → List ℕ → Option (ℕ × List ℕ)
route_of table path = if is_utf8 path then found table path else None

-- the name of the route's subprotocol, empty where the route has none
abbrev pub protocol_of : RouteTable → ℕ → List ℕ
protocol_of table route = unwrap_or (slice_get table.protocols route) []

-- What is decided of a head with these fields that ends here. `by_parts` tests the first rules, on the request line and
-- the fields but the key; then `by_key` those on the key and the version; and then `by_path` the one on the path.
abbrev pub by_path : RouteTable → FieldList → List ℕ → ℕ → Option (ℕ × List ℕ) → Verdict
by_path table fields key end None = refuse 404
by_path table fields key end (Some route) =
    admit end route.0 route.1 (accept_text key) (is_offered (protocol_of table route.0) fields)

abbrev pub by_key : RouteTable → FieldList → List ℕ → ℕ → Option (List ℕ) → Verdict
by_key table fields target end None = refuse 400
by_key table fields target end (Some key) =
    if has_version fields then by_path table fields key end (route_of table (path_of target)) else refuse 426

abbrev pub by_parts : RouteTable → ℕ → RequestHead → Verdict
by_parts table end head =
    if is_get head && asks_to_upgrade (fields_of head) then by_key table (fields_of head) head.target end (key_of (fields_of head))
    else refuse 400

-- what is decided of the octets of a head: by its parts where they are one whole head
abbrev pub JudgedHead : RouteTable → List ℕ → Verdict → Type 0
JudgedHead table octets verdict =
    ((head : RequestHead) × IsHead octets head × (verdict ≡ by_parts table (length octets) head))
    ⊎ (¬ (IsWholeHead octets) × (verdict ≡ refuse 400))

-- what is decided of octets in which no head ends
abbrev pub unended : ℕ → Verdict
unended size = if nat_lt size 8192 then more else refuse 431

-- what is decided of all octets that came so far
abbrev pub Judged : RouteTable → List ℕ → Verdict → Type 0
Judged table octets verdict =
    MatchOption (head_end octets) (verdict ≡ unended (length octets)) (λ end. JudgedHead table (take end octets) verdict)

-- what is written in answer: nothing while more octets are needed, else the reply to the head
abbrev pub answer_text : RouteTable → Verdict → List ℕ
answer_text table more = []
answer_text table (admit end route param accept protocol) =
    reply_text accept (if protocol then protocol_of table route else [])
answer_text table (refuse status) = refusal_text status

-- a verdict on a whole head of this size is not that more octets are needed, and its parts are in their ranges: the
-- end, the route's number, the parameter's length, and the status
abbrev pub IsDecided : RouteTable → ℕ → Verdict → Type 0
IsDecided table size more = ⊥
IsDecided table size (admit end route param accept protocol) =
    (end ≤ size) × (route < length table.protocols) × (length param ≤ 64)
IsDecided table size (refuse status) = IsTrue (is_refusal status)

-- in a verdict on so many octets each part is in its range
abbrev pub IsInRange : RouteTable → ℕ → Verdict → Type 0
IsInRange table size more = size < 8192
IsInRange table size (admit end route param accept protocol) =
    (end ≤ size) × (end ≤ 8192) × (route < length table.protocols) × (length param ≤ 64)
IsInRange table size (refuse status) = IsTrue (is_refusal status)
