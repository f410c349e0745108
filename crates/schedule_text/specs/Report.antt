-- The report of a run: one line for each note, and one for each link.
use Rattle.std.specs.Prelude.{◌≡◌, ◌<◌, ◌^◌, ◌++◌, ℕ, List, [], ◌∷◌, Bool, true, false, codes, decimal}
use Rattle.std.specs.List.{flat_map, AllByRecursion}
use Rattle.ws_kinds.specs.NoteValue.{NoteValue, turn, tick, accepted, busy, no_room, given, head, opened, message, ping_got, pong_got, peer_close, failed, took, dropped, unserved, pinged, told, closed, gone}
use Rattle.ws_kinds.specs.declared.kind.Kind.{Kind}
use Rattle.ws_kinds.specs.declared.kind.Kind.TheVariants as kind
use Rattle.ws_kinds.specs.declared.note.Why.{Why}
use Rattle.ws_kinds.specs.declared.note.Why.TheVariants as why
use Rattle.ws_kinds.specs.declared.note.Left.{Left}
use Rattle.ws_kinds.specs.declared.note.Left.TheVariants as left
use Rattle.ws_kinds.specs.Ranges.{AreOctets, IsNote}
use Rattle.schedule_text.specs.Line.{shown, line}

abbrev pub kind_word : Kind → List ℕ
kind_word kind.Text = codes "text"
kind_word kind.Binary = codes "binary"

abbrev pub why_word : Why → List ℕ
why_word why.Absent = codes "absent"
why_word why.NotOpen = codes "notopen"
why_word why.TooBig = codes "toobig"
why_word why.BadText = codes "badtext"
why_word why.BadTopic = codes "badtopic"
why_word why.Forbidden = codes "forbidden"
why_word why.TooMany = codes "toomany"
why_word why.BadCode = codes "badcode"
why_word why.Memory = codes "memory"

abbrev pub left_word : Left → List ℕ
left_word left.PeerEnd = codes "peerend"
left_word left.LinkFailed = codes "linkfailed"
left_word left.Idle = codes "idle"
left_word left.Finished = codes "finished"

abbrev pub drained_word : Bool → List ℕ
drained_word true = codes "yes"
drained_word false = codes "no"

-- the line of a note
abbrev pub note_line : NoteValue → List ℕ
note_line turn = line (codes "turn" ∷ [])
note_line tick = line (codes "tick" ∷ [])
note_line (accepted conn) = line (codes "accept" ∷ decimal conn ∷ [])
note_line (busy conn) = line (codes "busy" ∷ decimal conn ∷ [])
note_line (no_room conn) = line (codes "noroom" ∷ decimal conn ∷ [])
note_line (given conn count) = line (codes "given" ∷ decimal conn ∷ decimal count ∷ [])
note_line (head conn status) = line (codes "head" ∷ decimal conn ∷ decimal status ∷ [])
note_line (opened conn route param) = line (codes "opened" ∷ decimal conn ∷ decimal route ∷ shown param ∷ [])
note_line (message conn kind body) = line (kind_word kind ∷ decimal conn ∷ shown body ∷ [])
note_line (ping_got conn body) = line (codes "ping" ∷ decimal conn ∷ shown body ∷ [])
note_line (pong_got conn body) = line (codes "pong" ∷ decimal conn ∷ shown body ∷ [])
note_line (peer_close conn code reason) = line (codes "peerclose" ∷ decimal conn ∷ decimal code ∷ shown reason ∷ [])
note_line (failed conn code) = line (codes "failed" ∷ decimal conn ∷ decimal code ∷ [])
note_line (took conn offered count) = line (codes "took" ∷ decimal conn ∷ decimal offered ∷ decimal count ∷ [])
note_line (dropped conn index held) = line (codes "dropped" ∷ decimal conn ∷ decimal index ∷ decimal held ∷ [])
note_line (unserved conn order why) = line (codes "unserved" ∷ decimal conn ∷ decimal order ∷ why_word why ∷ [])
note_line (pinged conn) = line (codes "pinged" ∷ decimal conn ∷ [])
note_line (told conn count drained) = line (codes "told" ∷ decimal conn ∷ decimal count ∷ drained_word drained ∷ [])
note_line (closed conn code reason) = line (codes "closed" ∷ decimal conn ∷ decimal code ∷ shown reason ∷ [])
note_line (gone conn left) = line (codes "gone" ∷ decimal conn ∷ left_word left ∷ [])

-- the line of a link: the connection, the octets still held back, and those that it took
abbrev pub link_line : ℕ → ℕ → List ℕ → List ℕ
link_line conn held octets = line (codes "link" ∷ decimal conn ∷ decimal held ∷ shown octets ∷ [])

-- what the line of a link says
pub record Link : Type 0 where
  pub conn : ℕ
  pub held : ℕ
  pub octets : List ℕ

abbrev pub IsLink : Link → Type 0
IsLink link = (link.conn < 2 ^ 64) × (link.held < 2 ^ 64) × AreOctets link.octets

-- the report of a run: the lines of its notes, and then those of its links
abbrev pub report : List NoteValue → List Link → List ℕ
report notes links = flat_map note_line notes ++ flat_map (λ link. link_line link.conn link.held link.octets) links

-- each report is that of one list of notes and one list of links
abbrev pub IsOneToOne : Type 0
IsOneToOne = (notes others : List NoteValue) (links more : List Link) → AllByRecursion IsNote notes → AllByRecursion IsNote others
    → AllByRecursion IsLink links → AllByRecursion IsLink more → report notes links ≡ report others more → (notes ≡ others) × (links ≡ more)
