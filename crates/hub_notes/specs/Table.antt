-- The table of a hub's connections.
use Rattle.std.specs.Prelude.{◌≡◌, ◌≢◌, ◌<◌, ◌≤◌, ⊤, ℕ, List, [], ◌∷◌, Option, Some, None, Bool, true, false, not, is_some, ◌||◌, length, if◌then◌else◌}
use Rattle.ws_kinds.specs.declared.note.Phase.{Phase}
use Rattle.ws_kinds.specs.declared.note.Phase.TheVariants.{Head, Ending}
use Rattle.ws_kinds.specs.ConfigValue.{ConfigValue, IsConfig}
use Rattle.run_meaning.specs.Lines.{is_open}
use Rattle.hub_lines.specs.State.{HubState, Entry, PartingValue, no_entry, entry_of, has_entry, is_gone, most_held_in}
use Rattle.hub_notes.specs.Progress.{due_of}

pub record TableState : Type 0 where
  pub config : ConfigValue
  -- the greatest number that was accepted, 0 before the first
  pub named : ℕ
  pub entries : List Entry
  -- the Closed events that are due
  pub partings : List PartingValue

-- the table of a hub
abbrev pub table_of : HubState → TableState
table_of hub = record { config = hub.config; named = hub.named; entries = hub.entries; partings = hub.partings }

-- each entry's number is greater than this one
abbrev pub AreAbove : ℕ → List Entry → Type 0
AreAbove number [] = ⊤
AreAbove number (first ∷ rest) = (number < first.conn) × AreAbove number rest

-- the entries stand in the order of their numbers, each number once
abbrev pub AreRising : List Entry → Type 0
AreRising [] = ⊤
AreRising (first ∷ rest) = AreAbove first.conn rest × AreRising rest

-- a connection of these entries and Closed events is not gone, or its Closed event is due
abbrev pub is_kept : List Entry → List PartingValue → ℕ → Bool
is_kept entries partings conn = not (is_gone (entry_of entries conn).phase) || is_some (due_of partings conn)

-- what holds of a table
pub record IsTable (table : TableState) : Type 0 where
  -- its numbers are those of a configuration
  pub numbers : IsConfig table.config
  pub rising : AreRising table.entries
  -- the numbers are among those that were accepted, which begin at 1
  pub first : (conn : ℕ) → has_entry table.entries conn ≡ true → 1 ≤ conn
  pub named : (conn : ℕ) → has_entry table.entries conn ≡ true → conn ≤ table.named
  -- there are at most as many as there may be
  pub few : length table.entries ≤ table.config.max_conns
  -- a connection is an entry as long as it is not gone, or its Closed event is due
  pub kept : (conn : ℕ) → has_entry table.entries conn ≡ is_kept table.entries table.partings conn
  pub config : (conn : ℕ) → has_entry table.entries conn ≡ true → (entry_of table.entries conn).config ≡ table.config
  -- what is held for a connection that is gone is discarded
  pub gone : (conn : ℕ) → is_gone (entry_of table.entries conn).phase ≡ true → (entry_of table.entries conn).ring ≡ []
  -- and what is held for one that is not has a bound; nothing is held where nothing was put
  pub bound : (conn : ℕ) → length (entry_of table.entries conn).ring ≤ most_held_in table.config (entry_of table.entries conn).phase
  pub unused : (conn : ℕ) → (entry_of table.entries conn).numbered ≡ 0 → (entry_of table.entries conn).ring ≡ []
  -- nothing was put for a connection in phase Head
  pub heads : (conn : ℕ) → (entry_of table.entries conn).phase ≡ Head → (entry_of table.entries conn).numbered ≡ 0

-- one connection changes, and no other
pub record ChangesOne (conn : ℕ) (old new : TableState) : Type 0 where
  pub config : new.config ≡ old.config
  pub named : new.named ≡ old.named
  pub entries : (other : ℕ) → other ≢ conn → entry_of new.entries other ≡ entry_of old.entries other
  pub due : (other : ℕ) → other ≢ conn → due_of new.partings other ≡ due_of old.partings other

-- the Closed event that is due once a connection in this phase is gone: 1006 for one that was open (RFC 6455, section 7.1.5)
abbrev pub due_when_gone : Phase → Option (ℕ × List ℕ) → Option (ℕ × List ℕ)
due_when_gone phase due = if is_open (Some phase) then Some (1006, []) else due

-- the least connection above `after` that is ending, if there is one
abbrev pub IsNextEnding : List Entry → ℕ → Option ℕ → Type 0
IsNextEnding entries after None = (conn : ℕ) → after < conn → (entry_of entries conn).phase ≢ Ending
IsNextEnding entries after (Some conn) = (after < conn) × ((entry_of entries conn).phase ≡ Ending)
    × ((other : ℕ) → after < other → other < conn → (entry_of entries other).phase ≢ Ending)

-- the least entry above `after`, if there is one
abbrev pub IsNextEntry : List Entry → ℕ → Option ℕ → Type 0
IsNextEntry entries after None = (conn : ℕ) → after < conn → has_entry entries conn ≡ false
IsNextEntry entries after (Some conn) = (after < conn) × (has_entry entries conn ≡ true) × ((other : ℕ) → after < other → other < conn → has_entry entries other ≡ false)

-- the Closed event of the least connection for which one is due, if there is one; it is due no more
abbrev pub TakesDue : Option PartingValue → TableState → TableState → Type 0
TakesDue None old new = (new ≡ old) × ((conn : ℕ) → due_of old.partings conn ≡ None)
TakesDue (Some parting) old new = (due_of old.partings parting.conn ≡ Some (parting.code, parting.reason))
    × ((other : ℕ) → other < parting.conn → due_of old.partings other ≡ None)
    × (due_of new.partings parting.conn ≡ None) × (entry_of new.entries parting.conn ≡ (if is_gone (entry_of old.entries parting.conn).phase then no_entry else entry_of old.entries parting.conn))
    × ChangesOne parting.conn old new
