-- What counting ticks of one connection changes of a hub.
use Rattle.std.specs.Prelude.{◌≡◌, ℕ}
use Rattle.run_meaning.specs.Quiet.{QuietCount}
use Rattle.hub_lines.specs.State.{HubState, entry_at}
use Rattle.hub_notes.specs.Quiet.{counts_at}
use Rattle.hub_notes.specs.Table.{IsTable, table_of}
use Rattle.hub_core.specs.Changes.{ChangesHub}
use Rattle.hub_lines.specs.State.{cork_at, pending_at}
use Rattle.hub_notes.specs.Progress.{due_at, topics_at}
use Rattle.hub_notes.specs.Tells.{tell_at}

-- A connection has these counts then, and nothing else changes.
pub record Recounts (conn : ℕ) (counts : QuietCount) (old new : HubState) : Type 0 where
  pub counts_are : counts_at new conn ≡ counts
  pub entry : entry_at new conn ≡ record (entry_at old conn) { quiet = (entry_at new conn).quiet }
  pub due : due_at new conn ≡ due_at old conn
  pub cork : cork_at new conn ≡ cork_at old conn
  pub pending : pending_at new conn ≡ pending_at old conn
  pub topics : topics_at new conn ≡ topics_at old conn
  pub tells : tell_at new conn ≡ tell_at old conn
  pub change : ChangesHub conn old new
  pub table : IsTable (table_of new)
