-- What becomes of octets that are offered to a connection's link, and of those that are held back.
use Rattle.std.specs.Prelude.{◌≡◌, ◌≢◌, ◌≤◌, ◌+◌, ℕ, List, [], ◌++◌, Option, Some, None, Bool, true, false, length, drop}
use Rattle.ws_kinds.specs.NoteValue.{NoteValue}
use Rattle.link_trait.specs.NetState.{NetState}
use Rattle.wire_meaning.specs.Answer.{Item}
use Rattle.hub_lines.specs.Fronts.{TakesFront}
use Rattle.hub_lines.specs.Lines.{Held, IsCounted, Stands}
use Rattle.hub_lines.specs.Moves.{Moves, Others}
use Rattle.hub_lines.specs.Told.{ShortWhereHeld, WritesAreNoted, taken_of}
use Rattle.backlog.specs.RingValue.{RingValue}
use Rattle.socket_core.specs.declared.socket.Kept.{Kept}
use Rattle.socket_core.specs.declared.socket.Kept.TheVariants.{Clear, Failed}
use Rattle.socket_core.specs.Puts.{TellsRing, TellsFailure, OffersNoted, KeepsNet}

-- The octets held back, and then these, are offered or held back; `left` is held back afterwards.
pub record Hands (conn : ℕ) (answer : Kept) (octets ring left : List ℕ) (old new : NetState) (old_told new_told : Option (List NoteValue)) : Type 0 where
  -- what stood for the connection's line stands
  pub moves : answer ≢ Failed → (limit number : ℕ) → Moves conn limit false [] (record { numbered = number; ring = ring; cork = octets }) (record { numbered = number; ring = left; cork = [] }) old new old_told new_told
  -- where a write failed, the link took a front of what stood for the connection
  pub front : answer ≡ Failed → (held : Held) → held.ring ≡ ring → IsCounted held.numbered → (items : List Item) → Stands conn held (taken_of old conn) old_told items → TakesFront conn items new new_told
  pub others : Others conn old new old_told new_told
  pub offers : OffersNoted Clear conn old new old_told new_told
  pub noted : WritesAreNoted old old_told → WritesAreNoted new new_told
  pub short : answer ≢ Failed → ShortWhereHeld conn ring old_told → ShortWhereHeld conn left new_told
  pub waits : (ring ≢ [] → old.writable conn ≡ false) → left ≢ [] → new.writable conn ≡ false
  pub bound : length left ≤ length ring + length octets
  pub failed : TellsFailure answer conn old new
  pub net : KeepsNet conn old new

-- octets are put behind those that are held back, which are not offered; where none are held back, they are offered
pub record HandsOver (conn : ℕ) (answer : Kept) (octets : List ℕ) (old_ring new_ring : RingValue) (old new : NetState) (old_told new_told : Option (List NoteValue)) : Type 0 where
  pub hands : Hands conn answer octets old_ring.octets new_ring.octets old new old_told new_told
  pub kept : (limit : ℕ) → TellsRing limit answer new_ring.octets
  pub puts : old_ring.octets ≢ [] → new ≡ old
  pub capacity : new_ring.capacity ≡ old_ring.capacity

-- what is held back, in two parts, is offered: so many octets were taken
abbrev pub OffersParts : Option ℕ → ℕ → List ℕ → List ℕ → NetState → NetState → Option (List NoteValue) → Option (List NoteValue) → Type 0
OffersParts (Some count) conn front back old new old_told new_told = (count ≤ length (front ++ back))
    × (drop count (front ++ back) ≢ [] → new.writable conn ≡ false)
    × Hands conn Clear [] (front ++ back) (drop count (front ++ back)) old new old_told new_told
OffersParts None conn front back old new old_told new_told = Hands conn Failed [] (front ++ back) (front ++ back) old new old_told new_told
