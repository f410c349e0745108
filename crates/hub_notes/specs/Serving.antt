-- The orders of a connection, and what a hub makes of them.
use Rattle.std.specs.Prelude.{◌≡◌, ℕ, List, Bool}
use Rattle.ws_kinds.specs.ConfigValue.{ConfigValue}
use Rattle.ws_kinds.specs.OrderValue.{OrderValue}
use Rattle.hub_lines.specs.State.{Server}
use Rattle.hub_lines.specs.Calls.{nothing}
use Rattle.run_meaning.specs.Steps.{Step}
use Rattle.run_meaning.specs.Performs.{Answers, Performs}
use Rattle.hub_notes.specs.Progress.{progress_at, progress_obeys, standings_at}
use Rattle.hub_notes.specs.Tells.{tell_at}
use Rattle.hub_notes.specs.Quiet.{SameCounts}
use Rattle.hub_notes.specs.Calls.{Appends, Does}

-- The hub's tables change as an order of connection `from` says; its frames are still to be put.
pub record Obeys (from : ℕ) (order : OrderValue) (old new : Server) : Type 0 where
  pub progress : (conn : ℕ) → progress_at new.hub conn ≡ progress_obeys from conn order (progress_at old.hub conn)
  pub tells : (conn : ℕ) → tell_at new.hub conn ≡ tell_at old.hub conn
  pub counts : SameCounts old.hub new.hub
  pub net : new.net ≡ old.net
  pub told : new.told ≡ old.told
  pub appends : Appends nothing old new

-- An order of connection `from` with this number is served, or it is refused for its reason and nothing changes. A message
-- is published to those who are subscribed to its topic as the order's turn comes.
pub record Serves (config : ConfigValue) (admits : List ℕ → Bool) (from number : ℕ) (order : OrderValue) (old new : Server) : Type 0 where
  pub steps : List Step
  pub answers : Answers config admits from number (standings_at old.hub) order steps
  pub does : (texts : ℕ → List ℕ) → Does texts steps old new

-- So are these orders, one after another; the first has this number.
pub record ServesAll (config : ConfigValue) (admits : List ℕ → Bool) (from number : ℕ) (orders : List OrderValue) (old new : Server) : Type 0 where
  pub steps : List Step
  pub performs : Performs config admits from number (standings_at old.hub) orders steps
  pub does : (texts : ℕ → List ℕ) → Does texts steps old new
