-- The end of a turn.
use Rattle.std.specs.Prelude.{◌≡◌, ◌≢◌, ◌<◌, ◌-◌, ◌^◌, ⊤, ℕ, List, [], ◌∷◌, ◌++◌, Some, true, false, map, nat_eq}
use Rattle.std.specs.List.{list_all}
use Rattle.ws_kinds.specs.declared.note.Phase.TheVariants.{Ending}
use Rattle.ws_kinds.specs.declared.note.Left.TheVariants.{Finished}
use Rattle.ws_kinds.specs.NoteValue as note
use Rattle.ws_kinds.specs.NoteValue.{NoteValue}
use Rattle.wire_meaning.specs.Answer.{Item}
use Rattle.run_meaning.specs.Counts.{has_number}
use Rattle.hub_lines.specs.State.{Server, phase_at, entry_at, ring_at, is_present}
use Rattle.hub_lines.specs.Lines.{StandsFor, held_at, held_octets}
use Rattle.hub_lines.specs.Calls.{Ties, SameLinesElsewhere, nothing}
use Rattle.hub_notes.specs.NetAfter.{FailsAfter}
use Rattle.hub_notes.specs.Tells.{EndsTelling}
use Rattle.hub_notes.specs.Calls.{Advances, Proceeds, Appends}
use Rattle.hub_lines.specs.Fronts.{TakesAll}
use Rattle.hub_notes.specs.Fronts.{Waits, RingsWait, items_at}
use Rattle.hub_notes.specs.Table.{IsTable, table_of}

-- each number is greater than those before it
abbrev pub Rise : ℕ → List ℕ → Type 0
Rise least [] = ⊤
Rise least (first ∷ rest) = (least < first) × Rise first rest

-- the notes that these connections are gone, as finished
abbrev pub finishes : List ℕ → List NoteValue
finishes conns = map (λ conn. note.gone conn Finished) conns

-- one connection is finished
pub record FinishesOne (c : ℕ) (old new : Server) : Type 0 where
  pub advances : Advances (note.gone c Finished ∷ []) old new
  pub fails : FailsAfter (note.gone c Finished ∷ []) old.net new.net
  pub appends : Appends nothing old new
  pub away : is_present new.hub c ≡ false
  pub whole : items_at old.hub c < 2 ^ 64 - 1 → (items : List Item) → StandsFor c old items → TakesAll c items new.net new.told
  -- who is ending was it before, and holds what it held
  pub ending : (d : ℕ) → (entry_at new.hub d).phase ≡ Ending → ((entry_at old.hub d).phase ≡ Ending) × (ring_at new.hub d ≡ ring_at old.hub d)

-- it is finished where nothing is in its ring, and else nothing changes
pub record FinishesIfEmpty (c : ℕ) (old new : Server) : Type 0 where
  pub empty : ring_at old.hub c ≡ [] → FinishesOne c old new
  pub holds : ring_at old.hub c ≢ [] → new ≡ old

-- What is held is offered. Then the connections in phase Ending that hold nothing are gone, in order, and the turn's end is
-- noted.
pub record EndsTurn (old new : Server) : Type 0 where
  pub finished : List ℕ
  pub rising : Rise 0 finished
  pub proceeds : Proceeds [] (finishes finished ++ note.turn ∷ []) old new
  -- what stands to be told of each connection is that of the notes before the last one, by what is held for it then
  pub tells : EndsTelling (proceeds.sending ++ finishes finished) old.hub new.hub
  -- a connection that is still ending holds octets
  pub ending : (conn : ℕ) → phase_at new.hub conn ≡ Some Ending → held_octets (held_at new.hub conn) ≢ []
  -- the link of one that is finished took all its items
  pub whole : (conn : ℕ) → has_number conn finished ≡ true → items_at old.hub conn < 2 ^ 64 - 1 → (items : List Item) → StandsFor conn old items → TakesAll conn items new.net new.told

-- What is held back for a connection is offered to its link. Then it is gone, as finished, where it is ending and its link took all
-- its items.
pub record Offers (conn : ℕ) (old new : Server) : Type 0 where
  pub ties : Ties new
  -- nobody, or this connection
  pub finished : List ℕ
  pub own : list_all (nat_eq conn) finished ≡ true
  pub rising : Rise 0 finished
  pub proceeds : Proceeds [] (finishes finished) old new
  pub appends : Appends nothing old new
  -- where it is ending still, octets are held back
  pub ending : (entry_at new.hub conn).phase ≡ Ending → ring_at new.hub conn ≢ []
  -- the link of one that is finished took all its items
  pub whole : (other : ℕ) → has_number other finished ≡ true → items_at old.hub other < 2 ^ 64 - 1 → (items : List Item) → StandsFor other old items → TakesAll other items new.net new.told
  -- also of this connection, octets are held back only while its link takes nothing
  pub waits : ((other : ℕ) → other ≢ conn → Waits other old) → RingsWait new
  pub elsewhere : SameLinesElsewhere conn old new
  pub named : new.hub.named ≡ old.hub.named
  pub table : IsTable (table_of new.hub)
