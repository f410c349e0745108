-- What a hub has to tell next.
use Rattle.std.specs.Prelude.{◌≡◌, ◌<◌, ℕ, Bool, true, false, ◌&&◌, nat_eq, if◌then◌else◌}
use Rattle.run_meaning.specs.Lines.{is_open}
use Rattle.run_meaning.specs.Tell.{has_news, marked}
use Rattle.hub_lines.specs.State.{HubState}
use Rattle.hub_notes.specs.Progress.{progress_at, standings_at}
use Rattle.hub_notes.specs.Quiet.{SameCounts}
use Rattle.hub_notes.specs.Tells.{tell_at}

-- the connection is open, and there is something to tell of it
abbrev pub news_at : HubState → ℕ → Bool
news_at hub conn = is_open (standings_at hub conn).phase && has_news (tell_at hub conn)

-- no connection above this number has something to tell
abbrev pub NoneToTell : ℕ → HubState → Type 0
NoneToTell after hub = (conn : ℕ) → after < conn → news_at hub conn ≡ false

-- the least connection above a number that has something to tell, and what that is
pub record IsNextTold (after conn dropped : ℕ) (drained : Bool) (hub : HubState) : Type 0 where
  pub above : after < conn
  pub news : news_at hub conn ≡ true
  pub least : (other : ℕ) → after < other → other < conn → news_at hub other ≡ false
  pub dropped_is : dropped ≡ (tell_at hub conn).dropped
  pub drained_is : drained ≡ (tell_at hub conn).drained

-- This is handed out, and from then on counts as told.
pub record TakesTold (after conn dropped : ℕ) (drained : Bool) (old new : HubState) : Type 0 where
  pub next : IsNextTold after conn dropped drained old
  pub progress : (other : ℕ) → progress_at new other ≡ progress_at old other
  pub tells : (other : ℕ) → tell_at new other ≡ (if nat_eq conn other then marked (tell_at old other) else tell_at old other)
  pub counts : SameCounts old new
