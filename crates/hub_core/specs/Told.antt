-- What the handler is to be told of a connection's items, as it is taken.
use Rattle.std.specs.Prelude.{◌≡◌, ◌<◌, ℕ, Bool, true, false, Option, Some, None, nat_eq, if◌then◌else◌}
use Rattle.run_meaning.specs.Tell.{marked}
use Rattle.hub_lines.specs.State.{HubState}
use Rattle.hub_notes.specs.Tells.{tell_at}
use Rattle.hub_notes.specs.NextTold.{NoneToTell, news_at}

-- the least connection above `after` of which there is something to tell, if there is one
abbrev pub IsNextNews : HubState → ℕ → Option ℕ → Type 0
IsNextNews hub after None = NoneToTell after hub
IsNextNews hub after (Some conn) = (after < conn) × (news_at hub conn ≡ true) × ((other : ℕ) → after < other → other < conn → news_at hub other ≡ false)

-- What stands to be told of a connection is taken, and the hub changes in nothing else.
pub record MarksTold (conn dropped : ℕ) (drained : Bool) (old new : HubState) : Type 0 where
  pub dropped_is : dropped ≡ (tell_at old conn).dropped
  pub drained_is : drained ≡ (tell_at old conn).drained
  pub tells : (other : ℕ) → tell_at new other ≡ (if nat_eq conn other then marked (tell_at old other) else tell_at old other)
  pub others : new ≡ record old { tellings = new.tellings }
