-- The ranges of what a note says.
use Rattle.std.specs.Prelude.{◌<◌, ◌^◌, ⊤, ℕ, List}
use Rattle.std.specs.List.{AllByRecursion}
use Rattle.ws_kinds.specs.NoteValue.{NoteValue, turn, tick, accepted, busy, no_room, given, head, opened, message, ping_got, pong_got, peer_close, failed, took, dropped, unserved, pinged, told, closed, gone}

-- octets, as numbers
abbrev pub AreOctets : List ℕ → Type 0
AreOctets octets = AllByRecursion (λ octet. octet < 256) octets

-- the numbers of a note are below 2 ^ 64, and what it shows is octets
abbrev pub IsNote : NoteValue → Type 0
IsNote turn = ⊤
IsNote tick = ⊤
IsNote (accepted conn) = conn < 2 ^ 64
IsNote (busy conn) = conn < 2 ^ 64
IsNote (no_room conn) = conn < 2 ^ 64
IsNote (given conn count) = (conn < 2 ^ 64) × (count < 2 ^ 64)
IsNote (head conn status) = (conn < 2 ^ 64) × (status < 2 ^ 64)
IsNote (opened conn route param) = (conn < 2 ^ 64) × (route < 2 ^ 64) × AreOctets param
IsNote (message conn kind body) = (conn < 2 ^ 64) × AreOctets body
IsNote (ping_got conn body) = (conn < 2 ^ 64) × AreOctets body
IsNote (pong_got conn body) = (conn < 2 ^ 64) × AreOctets body
IsNote (peer_close conn code reason) = (conn < 2 ^ 64) × (code < 2 ^ 64) × AreOctets reason
IsNote (failed conn code) = (conn < 2 ^ 64) × (code < 2 ^ 64)
IsNote (took conn offered count) = (conn < 2 ^ 64) × (offered < 2 ^ 64) × (count < 2 ^ 64)
IsNote (dropped conn index held) = (conn < 2 ^ 64) × (index < 2 ^ 64) × (held < 2 ^ 64)
IsNote (unserved conn order why) = (conn < 2 ^ 64) × (order < 2 ^ 64)
IsNote (pinged conn) = conn < 2 ^ 64
IsNote (told conn count drained) = (conn < 2 ^ 64) × (count < 2 ^ 64)
IsNote (closed conn code reason) = (conn < 2 ^ 64) × (code < 2 ^ 64) × AreOctets reason
IsNote (gone conn left) = conn < 2 ^ 64

-- each note of a list
abbrev pub AreNotes : List NoteValue → Type 0
AreNotes notes = AllByRecursion IsNote notes
