-- What putting an item answers, and what it leaves of the net.
use Rattle.std.specs.Prelude.{◌≡◌, ◌≢◌, ◌<◌, ◌≤◌, ◌+◌, ◌-◌, ◌^◌, min, max, ℕ, List, [], ◌++◌, Option, Some, None, Bool, true, false, nat_lt, if◌then◌else◌, length, drop, ⊤}
use Rattle.std.specs.List.{list_all}
use Rattle.ws_kinds.specs.NoteValue.{NoteValue, took}
use Rattle.ws_kinds.specs.Watch.{IsNoted, AreNoted}
use Rattle.ws_kinds.specs.declared.tally.Tally.{Tally}
use Rattle.link_trait.specs.NetState.{NetState}
use Rattle.link_trait.specs.Net.{CountsFault, Same, SameBut, SameNet, SameTrafficBut, Writes}
use Rattle.link_trait.specs.declared.net.NetWrote.TheVariants.{Took as Accepted, Failed as WriteFailed}
use Rattle.backlog.specs.RingValue.{ringed_more}
use Rattle.hub_lines.specs.Fronts.{FailsWithin}
use Rattle.hub_lines.specs.Items.{joined}
use Rattle.hub_lines.specs.Moves.{Moves, Others, buffered_of}
use Rattle.hub_lines.specs.State.{Entry}
use Rattle.hub_lines.specs.Told.{ShortWhereHeld}
use Rattle.run_meaning.specs.Counts.{writes, taken, drops}
use Rattle.run_meaning.specs.Notes.{is_sending}
use Rattle.socket_core.specs.declared.socket.Kept.{Kept}
use Rattle.socket_core.specs.declared.socket.Kept.TheVariants.{Clear, Backlog, Dropped, Failed}

-- Clear exactly where nothing is held back, else the number of octets held. An item is dropped only where more is held than the limit
abbrev pub TellsRing : ℕ → Kept → List ℕ → Type 0
TellsRing limit Clear ring = ring ≡ []
TellsRing limit (Backlog held) ring = (ring ≢ []) × (held ≡ length ring)
TellsRing limit (Dropped held) ring = (limit < held) × (held ≡ length ring)
TellsRing limit Failed ring = ⊤

-- a write of the connection failed: the net counted a fault
pub record BreaksLink (conn : ℕ) (old new : NetState) : Type 0 where
  pub faults : CountsFault old.faults new.faults
  pub broken : old.tells ≡ true → new.broken conn ≡ true

-- no write of the connection failed
pub record LeavesLinkWhole (conn : ℕ) (old new : NetState) : Type 0 where
  pub faults : old.faults ≤ new.faults
  pub broken : old.tells ≡ true → new.broken conn ≡ old.broken conn

-- Failed exactly where the connection's write failed
abbrev pub TellsFailure : Kept → ℕ → NetState → NetState → Type 0
TellsFailure Failed conn old new = BreaksLink conn old new
TellsFailure _ conn old new = LeavesLinkWhole conn old new

-- where the net tells: writes of one connection change nothing of the others, and are neither reads nor answers of `next`
pub record WritesAlone (conn : ℕ) (old new : NetState) : Type 0 where
  pub elsewhere : SameTrafficBut conn old new
  pub given : new.given conn ≡ old.given conn
  pub ended : new.ended conn ≡ old.ended conn
  pub passed : new.passed ≡ old.passed
  pub rested : new.rested ≡ old.rested

-- what writes of one connection leave of the net
pub record KeepsNet (conn : ℕ) (old new : NetState) : Type 0 where
  pub net : SameNet old new
  pub told : old.tells ≡ true → WritesAlone conn old new
  pub live : Same old.live new.live
  pub named : new.named ≡ old.named
  pub due : Same old.due new.due
  pub writable : SameBut conn old.writable new.writable
  pub room : new.room ≤ old.room
  pub port : new.port ≡ old.port

-- how many items were dropped, by the answer
abbrev pub drops_in : Kept → ℕ
drops_in (Dropped held) = 1
drops_in _ = 0

-- what is noted of a connection's octets that were offered: each write that took, and each drop, all of this connection; an
-- item is dropped exactly where the answer says so
pub record OffersNoted (answer : Kept) (conn : ℕ) (old new : NetState) (old_told new_told : Option (List NoteValue)) : Type 0 where
  pub notes : List NoteValue
  pub own : list_all (is_sending conn) notes ≡ true
  pub dropped : length (drops conn notes) ≡ drops_in answer
  pub told : AreNoted old_told notes new_told
  pub wrote : old.tells ≡ true → new.wrote conn ≡ old.wrote conn ++ writes conn notes
  pub taken : old.tells ≡ true → length (new.taken conn) ≡ length (old.taken conn) + taken conn notes

-- What a step of one connection does, which puts these frames and may drop one where `can_drop` is true: to its socket, to the
-- net, and to what the watch told.
pub record PassesOctets (conn limit : ℕ) (can_drop : Bool) (popped : List (List ℕ)) (answer : Kept) (old new : Entry) (old_net new_net : NetState) (old_told new_told : Option (List NoteValue)) : Type 0 where
  -- what stood for the connection's line stands, with these frames behind it
  pub moves : answer ≢ Failed → Moves conn limit can_drop popped (buffered_of old []) (buffered_of new []) old_net new_net old_told new_told
  -- where a write failed, the link took a front of that line
  pub front : answer ≡ Failed → FailsWithin conn popped (buffered_of old []) old_net new_net old_told new_told
  -- what stood for any other connection stands
  pub others : Others conn old_net new_net old_told new_told
  -- each write that took and each drop is noted, and nothing else
  pub offers : OffersNoted answer conn old_net new_net old_told new_told
  -- octets are held back only after a short write, and while the link takes nothing
  pub short : answer ≢ Failed → ShortWhereHeld conn old.ring old_told → ShortWhereHeld conn new.ring new_told
  pub waits : (old.ring ≢ [] → old_net.writable conn ≡ false) → new.ring ≢ [] → new_net.writable conn ≡ false
  -- they are no more than before and those that were put; of an item that may be dropped, no more than over the limit
  pub bound : length new.ring ≤ length old.ring + length (joined popped)
  pub limited : can_drop ≡ true → length new.ring ≤ max (length old.ring) (limit + length (joined popped))
  pub kept : TellsRing limit answer new.ring
  pub failed : TellsFailure answer conn old_net new_net
  pub net : KeepsNet conn old_net new_net
  pub numbered : new.numbered ≡ min (old.numbered + length popped) (2 ^ 64 - 1)
  pub conn_is : new.conn ≡ old.conn
  pub config : new.config ≡ old.config
  pub phase : new.phase ≡ old.phase
  pub quiet : new.quiet ≡ old.quiet

-- an item is dropped exactly where it may be and more is held than the limit
abbrev pub is_drop : Kept → Bool
is_drop (Dropped held) = true
is_drop _ = false

-- these octets were offered in one write: it took so many, which is noted, or it failed
abbrev pub Offers : Option ℕ → ℕ → List ℕ → NetState → NetState → Option (List NoteValue) → Option (List NoteValue) → Type 0
Offers (Some count) conn octets old new old_told new_told = Writes conn octets (Accepted count) old new × IsNoted old_told (took conn (length octets) count) new_told
Offers None conn octets old new old_told new_told = Writes conn octets WriteFailed old new × (new_told ≡ old_told)

-- one write took so many of these octets, which is noted, and those that it did not take are left
pub record OffersSome (conn : ℕ) (octets left : List ℕ) (old new : NetState) (old_told new_told : Option (List NoteValue)) : Type 0 where
  pub count : ℕ
  pub write : Offers (Some count) conn octets old new old_told new_told
  pub rest : left ≡ drop count octets

-- an item's octets were offered in one write, and those that it did not take are held back; or it failed, and then nothing is noted
-- and nothing is held back
abbrev pub OffersOnce : Kept → ℕ → List ℕ → List ℕ → NetState → NetState → Option (List NoteValue) → Option (List NoteValue) → Type 0
OffersOnce Failed conn octets left old new old_told new_told = Offers None conn octets old new old_told new_told × (left ≡ [])
OffersOnce _ conn octets left old new old_told new_told = OffersSome conn octets left old new old_told new_told

-- the octets that came behind those in a ring, and no others, are counted as copied
abbrev pub CountsRinged : List ℕ → List ℕ → Tally → Tally → Type 0
CountsRinged old_ring new_ring old new = new ≡ (if nat_lt (length old_ring) (length new_ring) then ringed_more (length new_ring - length old_ring) old else old)
