-- What it takes to put an item for a connection, and what it does.
use Rattle.std.specs.Prelude.{◌≡◌, ◌≢◌, ◌+◌, ◌≤◌, ℕ, [], true, false, length}
use Rattle.ws_kinds.specs.declared.note.Phase.TheVariants.{Head}
use Rattle.wire_meaning.specs.Answer.{Item as Sent}
use Rattle.hub_lines.specs.State.{Server, entry_at, is_present, most_held_in, numbered_at, ring_at}
use Rattle.hub_lines.specs.Calls.{Ties, SameLinesElsewhere, nothing, only}
use Rattle.hub_notes.specs.Calls.{Proceeds, Appends}
use Rattle.hub_notes.specs.Fronts.{RingsWait, Waits}
use Rattle.hub_notes.specs.Table.{IsTable, table_of}
use Rattle.socket_core.specs.Items.{IsSent, IsPuttable, can_drop, octets_of}
use Rattle.socket_core.specs.declared.item.Item.{Item}
use Rattle.socket_core.specs.declared.socket.Kept.{Kept}
use Rattle.hub_core.specs.Answers.{TellsPut}

-- an item may be put for a connection that is not gone, and whose head was answered or is answered by it
pub record MayPut (conn : ℕ) (puts : Item) (old : Server) : Type 0 where
  pub present : is_present old.hub conn ≡ true
  pub past_head : (entry_at old.hub conn).phase ≢ Head
  pub item : IsPuttable old.hub.config (numbered_at old.hub conn) puts
  -- one that may not be dropped fits behind what is held
  pub room : can_drop puts ≡ false → length (ring_at old.hub conn) + length (octets_of puts) ≤ most_held_in old.hub.config (entry_at old.hub conn).phase
  pub ties : Ties old

-- what came of it
pub record Puts (conn : ℕ) (puts : Item) (answer : Kept) (old new : Server) : Type 0 where
  pub ties : Ties new
  pub proceeds : Proceeds [] [] old new
  pub appends : (sent : Sent) → IsSent puts sent → Appends (only conn sent) old new
  pub elsewhere : SameLinesElsewhere conn old new
  pub kept : TellsPut answer conn new.hub
  pub config : new.hub.config ≡ old.hub.config
  pub named : new.hub.named ≡ old.hub.named
  pub table : IsTable (table_of new.hub)

-- What is held for a connection was offered to its link, and it is gone where a write failed.
pub record OffersHeld (conn : ℕ) (old new : Server) : Type 0 where
  pub ties : Ties new
  pub proceeds : Proceeds [] [] old new
  pub appends : Appends nothing old new
  -- then octets are held for it only while its link takes nothing
  pub waits : ((other : ℕ) → other ≢ conn → Waits other old) → RingsWait new
  pub elsewhere : SameLinesElsewhere conn old new
  pub named : new.hub.named ≡ old.hub.named
  pub table : IsTable (table_of new.hub)
