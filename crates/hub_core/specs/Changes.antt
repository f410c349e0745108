-- What a step of one connection changes of a hub.
use Rattle.std.specs.Prelude.{◌≡◌, ◌≢◌, ◌<◌, ◌≤◌, ◌+◌, ◌-◌, ◌^◌, min, ℕ, List, [], ◌∷◌, Some, Bool, true, false, length, if◌then◌else◌}
use Rattle.ws_kinds.specs.declared.note.Left.{Left}
use Rattle.ws_kinds.specs.declared.note.Left.TheVariants.{LinkFailed}
use Rattle.ws_kinds.specs.declared.note.Phase.TheVariants.{Ending, Gone}
use Rattle.ws_kinds.specs.NoteValue as note
use Rattle.ws_kinds.specs.Watch.{IsNoted}
use Rattle.link_trait.specs.Net.{Shuts}
use Rattle.wire_meaning.specs.Answer.{Item}
use Rattle.run_meaning.specs.Notes.{is_left}
use Rattle.run_meaning.specs.Lines.{is_open, topics_left}
use Rattle.run_meaning.specs.Tell.{Tell, nothing_told, one_dropped}
use Rattle.hub_lines.specs.State.{HubState, Server, entry_at, most_held_in, numbered_at, phase_at, ring_at, cork_at, pending_at, is_gone, is_present}
use Rattle.hub_lines.specs.Told.{ShortWhereHeld}
use Rattle.hub_lines.specs.Moves.{Moves, Others, buffered_at}
use Rattle.hub_lines.specs.Lines.{StandsFor}
use Rattle.hub_lines.specs.Calls.{Ties, SameElsewhere, nothing}
use Rattle.hub_lines.specs.Fronts.{FailsWithin, TakesAll}
use Rattle.hub_notes.specs.Fronts.{items_at}
use Rattle.hub_notes.specs.Progress.{due_at, topics_at, may_leave_by}
use Rattle.hub_notes.specs.Tells.{tell_at}
use Rattle.hub_notes.specs.NetAfter.{FailsAfter}
use Rattle.hub_notes.specs.Calls.{Advances, Appends}
use Rattle.socket_core.specs.Items.{octets_of, can_drop}
use Rattle.socket_core.specs.Puts.{TellsRing, TellsFailure, OffersNoted, KeepsNet}
use Rattle.socket_core.specs.declared.item.Item.{Item as Puttable}
use Rattle.socket_core.specs.declared.socket.Kept.{Kept}
use Rattle.socket_core.specs.declared.socket.Kept.TheVariants.{Dropped, Failed}
use Rattle.hub_notes.specs.Table.{IsTable, ChangesOne, table_of, due_when_gone}

-- One connection changes: its entry, its Closed event, its cork, its pending frames, its topics and what is to be told of it.
-- Those of the others are as they were.
pub record ChangesHub (conn : ℕ) (old new : HubState) : Type 0 where
  pub table : ChangesOne conn (table_of old) (table_of new)
  pub cork : (other : ℕ) → other ≢ conn → cork_at new other ≡ cork_at old other
  pub pending : (other : ℕ) → other ≢ conn → pending_at new other ≡ pending_at old other
  pub topics : (other : ℕ) → other ≢ conn → topics_at new other ≡ topics_at old other
  pub tells : (other : ℕ) → other ≢ conn → tell_at new other ≡ tell_at old other

-- what is to be told after an item was put
abbrev pub tell_after : Kept → Tell → Tell
tell_after (Dropped held) tell = one_dropped tell
tell_after _ tell = tell

-- A step of one connection for which nothing is pending puts these frames, and may drop one where `may_drop` is true: what stood
-- for its line stands, with the frames behind it. Where a write of it failed, its link took a front of that line, and it is still
-- to be made gone.
pub record Passes (conn : ℕ) (may_drop : Bool) (popped : List (List ℕ)) (kept : Kept) (old new : Server) : Type 0 where
  pub moves : kept ≢ Failed → Moves conn old.hub.config.limit may_drop popped (buffered_at old.hub conn) (buffered_at new.hub conn) old.net new.net old.told new.told
  pub others : Others conn old.net new.net old.told new.told
  pub offers : OffersNoted kept conn old.net new.net old.told new.told
  pub front : kept ≡ Failed → FailsWithin conn popped (buffered_at old.hub conn) old.net new.net old.told new.told
  pub short : kept ≢ Failed → ShortWhereHeld conn (ring_at old.hub conn) old.told → ShortWhereHeld conn (ring_at new.hub conn) new.told
  pub kept_is : TellsRing old.hub.config.limit kept (ring_at new.hub conn)
  pub failed : TellsFailure kept conn old.net new.net
  pub net : KeepsNet conn old.net new.net
  pub numbered : numbered_at new.hub conn ≡ min (numbered_at old.hub conn + length popped) (2 ^ 64 - 1)
  pub waits : (ring_at old.hub conn ≢ [] → old.net.writable conn ≡ false) → ring_at new.hub conn ≢ [] → new.net.writable conn ≡ false
  pub phase : (entry_at new.hub conn).phase ≡ (entry_at old.hub conn).phase
  pub quiet : (entry_at new.hub conn).quiet ≡ (entry_at old.hub conn).quiet
  pub due : due_at new.hub conn ≡ due_at old.hub conn
  pub topics : topics_at new.hub conn ≡ topics_at old.hub conn
  pub tells : tell_at new.hub conn ≡ tell_after kept (tell_at old.hub conn)
  pub before : pending_at old.hub conn ≡ []
  pub after : pending_at new.hub conn ≡ []
  pub elsewhere : ChangesHub conn old.hub new.hub
  pub table : IsTable (table_of new.hub)

-- an item is put
abbrev pub PutsItem : ℕ → Puttable → Kept → Server → Server → Type 0
PutsItem conn item kept old new = Passes conn (can_drop item) (octets_of item ∷ []) kept old new

-- what is held is offered; then octets are held only while the link takes nothing
pub record OffersRing (conn : ℕ) (kept : Kept) (old new : Server) : Type 0 where
  pub passes : Passes conn false [] kept old new
  pub waits : kept ≢ Failed → ring_at new.hub conn ≢ [] → new.net.writable conn ≡ false

-- A connection is gone: its link is shut, and this is noted. With Open its topics end and its Closed event is due; nothing is
-- to be told of it any more.
pub record Leaves (conn : ℕ) (left : Left) (old new : Server) : Type 0 where
  pub gone : is_gone (entry_at new.hub conn).phase ≡ true
  pub due : due_at new.hub conn ≡ due_when_gone (entry_at old.hub conn).phase (due_at old.hub conn)
  pub topics : topics_at new.hub conn ≡ topics_left (Some (entry_at old.hub conn).phase) (Some Gone) (topics_at old.hub conn)
  pub tells : tell_at new.hub conn ≡ nothing_told
  pub change : ChangesHub conn old.hub new.hub
  pub shuts : Shuts conn old.net new.net
  pub noted : IsNoted old.told (note.gone conn left) new.told

-- and what that means to the others
pub record Goes (conn : ℕ) (left : Left) (old new : Server) : Type 0 where
  pub leaves : Leaves conn left old new
  pub advances : may_leave_by (Some (entry_at old.hub conn).phase) left ≡ true → Advances (note.gone conn left ∷ []) old new
  -- no write failed, unless the cause says so
  pub quiet : FailsAfter [] old.net new.net
  pub fails : is_left LinkFailed left ≡ false → FailsAfter (note.gone conn left ∷ []) old.net new.net
  pub appends : Appends nothing old new
  pub elsewhere : SameElsewhere conn old.hub new.hub
  pub ties : Ties old → Ties new
  -- where nothing was in its ring, its link took all its items
  pub whole : ring_at old.hub conn ≡ [] → items_at old.hub conn < 2 ^ 64 - 1 → (items : List Item) → StandsFor conn old items → TakesAll conn items new.net new.told
  pub away : is_present new.hub conn ≡ false
  pub named : new.hub.named ≡ old.hub.named
  pub table : IsTable (table_of new.hub)

-- A connection in phase Open or Leaving is ending; this is still to be noted. From Open, its topics end, and its Closed event
-- is due, with this code and this reason.
pub record Ends (conn code : ℕ) (reason : List ℕ) (answer : Bool) (old new : HubState) : Type 0 where
  pub was_open : answer ≡ is_open (phase_at old conn)
  pub entry : entry_at new conn ≡ record (entry_at old conn) { phase = Ending }
  pub due : due_at new conn ≡ (if is_open (phase_at old conn) then Some (code, reason) else due_at old conn)
  pub topics : topics_at new conn ≡ topics_left (Some (entry_at old conn).phase) (Some Ending) (topics_at old conn)
  pub cork : cork_at new conn ≡ cork_at old conn
  pub pending : pending_at new conn ≡ pending_at old conn
  pub tells : tell_at new conn ≡ tell_at old conn
  -- from Open, a control frame fits behind what is held: 10 octets of a header and 125 of a payload at most
  pub room : answer ≡ true → length (ring_at new conn) + 135 ≤ most_held_in new.config (entry_at new conn).phase
  pub change : ChangesHub conn old new
  pub table : IsTable (table_of new)
