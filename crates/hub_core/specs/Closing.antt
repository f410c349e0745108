-- A connection that the server closes.
use Rattle.std.specs.Prelude.{◌≡◌, ◌≤◌, ◌+◌, ℕ, List, [], Some, length}
use Rattle.ws_kinds.specs.declared.note.Phase.TheVariants.{Leaving}
use Rattle.ws_kinds.specs.OrderValue.{close}
use Rattle.run_meaning.specs.Lines.{close_frame}
use Rattle.hub_lines.specs.State.{HubState, Server, entry_at, ring_at, cork_at, pending_at, most_held_in}
use Rattle.hub_lines.specs.Calls.{only}
use Rattle.hub_notes.specs.Progress.{due_at, topics_at}
use Rattle.hub_notes.specs.Tells.{tell_at}
use Rattle.hub_notes.specs.Serving.{Obeys}
use Rattle.hub_notes.specs.Table.{IsTable, table_of}
use Rattle.hub_core.specs.Changes.{ChangesHub}
use Rattle.hub_core.specs.Sends.{Sends}

-- An open connection is leaving: its topics end, and its Closed event is due, with this code and this reason. Its close frame is
-- still to be put.
pub record BeginsToLeave (conn code : ℕ) (reason : List ℕ) (old new : HubState) : Type 0 where
  pub entry : entry_at new conn ≡ record (entry_at old conn) { phase = Leaving }
  pub due : due_at new conn ≡ Some (code, reason)
  pub topics : topics_at new conn ≡ []
  pub cork : cork_at new conn ≡ cork_at old conn
  pub pending : pending_at new conn ≡ pending_at old conn
  pub tells : tell_at new conn ≡ tell_at old conn
  -- a control frame fits behind what is held: 10 octets of a header and 125 of a payload at most
  pub room : length (ring_at new conn) + 135 ≤ most_held_in new.config (entry_at new conn).phase
  pub change : ChangesHub conn old new
  pub table : IsTable (table_of new)

-- The connection is leaving. Then its close frame is put; where its link fails at that, it is gone, and has left Open by the
-- close all the same.
pub record Closes (conn code : ℕ) (reason : List ℕ) (old new : Server) : Type 0 where
  pub between : Server
  pub obeys : Obeys conn (close code reason) old between
  pub sends : Sends conn [] (only conn (close_frame code reason)) between new
  pub named : between.hub.named ≡ old.hub.named
