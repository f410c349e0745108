-- A hub by its table, by who subscribed to what, and by what is to be told, as long as each frame is written by itself when it is
-- put.
use Rattle.std.specs.Prelude.{◌≡◌, ◌≢◌, ℕ, [], Some, None, List, Option, Bool, true, false}
use Rattle.ws_kinds.specs.NoteValue.{NoteValue}
use Rattle.ws_kinds.specs.Topics.{topics_of}
use Rattle.ws_kinds.specs.declared.note.Phase.{Phase}
use Rattle.ws_kinds.specs.declared.note.Phase.TheVariants.{Head, Gone}
use Rattle.link_trait.specs.NetState.{NetState}
use Rattle.run_meaning.specs.Lines.{is_open}
use Rattle.hub_lines.specs.State.{HubState, Server, server, entry_of}
use Rattle.hub_notes.specs.Table.{TableState, IsTable}
use Rattle.hub_tellings.specs.Tellings.{TellingsState, AreRisingRows, has_row}

-- nothing is in a cork, pending or stored
abbrev pub hub_of : TableState → List (ℕ × List ℕ) → TellingsState → HubState
hub_of table pairs tellings = record {
  config = table.config;
  named = table.named;
  entries = table.entries;
  holder = None;
  corked = [];
  waiting = [];
  outbox = [];
  pairs = pairs;
  partings = table.partings;
  tellings = tellings.rows;
}

abbrev pub server_of : TableState → List (ℕ × List ℕ) → TellingsState → NetState → Option (List NoteValue) → Server
server_of table pairs tellings net told = server (hub_of table pairs tellings) net told

-- octets may be held for a connection in this phase: its head was answered, and it is not gone
abbrev pub may_hold : Phase → Bool
may_hold Head = false
may_hold Gone = false
may_hold _ = true

-- what holds of a hub
pub record IsHub (state : TableState) (pairs : List (ℕ × List ℕ)) (tellings : TellingsState) : Type 0 where
  pub table : IsTable state
  -- only a connection that is open has topics
  pub topics : (conn : ℕ) → is_open (Some (entry_of state.entries conn).phase) ≡ false → topics_of pairs conn ≡ []
  pub rising : AreRisingRows tellings.rows
  -- there is memory for a row for each entry
  pub room : tellings.room ≡ state.config.max_conns
  -- only a connection for which octets may be held has a row
  pub rows : (conn : ℕ) → may_hold (entry_of state.entries conn).phase ≡ false → has_row tellings.rows conn ≡ false
  -- and one for which octets are held has one
  pub held : (conn : ℕ) → (entry_of state.entries conn).ring ≢ [] → has_row tellings.rows conn ≡ true
