-- What is to be told of connections, as a turn ends.
use Rattle.std.specs.Prelude.{◌≡◌, ◌≢◌, ◌≤◌, ◌<◌, ℕ, List, [], true, false, length}
use Rattle.run_meaning.specs.Tell.{at_turn}
use Rattle.hub_lines.specs.State.{Entry, HubState, entry_of}
use Rattle.hub_notes.specs.Tells.{held_in, tell_at, tell_of}
use Rattle.hub_tellings.specs.Tellings.{TellingsState, AreRisingRows, has_row}

-- what holds of rows at all times of a turn's end: who holds octets has a row, and who has a row had one before
pub record KeepsRows (entries : List Entry) (old new : TellingsState) : Type 0 where
  pub held : (conn : ℕ) → (entry_of entries conn).ring ≢ [] → has_row new.rows conn ≡ true
  pub none : (conn : ℕ) → has_row old.rows conn ≡ false → has_row new.rows conn ≡ false
  pub room_is : new.room ≡ old.room
  pub rising : AreRisingRows new.rows

-- The turn ended for the connections up to this number, and for no other.
pub record SettlesUpTo (after : ℕ) (entries : List Entry) (old new : TellingsState) : Type 0 where
  pub told : (conn : ℕ) → conn ≤ after → tell_of new.rows conn ≡ at_turn (length (entry_of entries conn).ring) (tell_of old.rows conn)
  pub rest : (conn : ℕ) → after < conn → tell_of new.rows conn ≡ tell_of old.rows conn
  pub keeps : KeepsRows entries old new

-- It ended for each connection.
pub record SettlesRows (entries : List Entry) (old new : TellingsState) : Type 0 where
  pub told : (conn : ℕ) → tell_of new.rows conn ≡ at_turn (length (entry_of entries conn).ring) (tell_of old.rows conn)
  pub keeps : KeepsRows entries old new

-- and so for a hub, of which nothing else changes
pub record Settles (old new : HubState) : Type 0 where
  pub told : (conn : ℕ) → tell_at new conn ≡ at_turn (held_in old conn) (tell_at old conn)
  pub others : new ≡ record old { tellings = new.tellings }
