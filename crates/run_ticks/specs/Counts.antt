-- What a hub has counted, beside what its notes say.
use Rattle.std.specs.Prelude.{◌≡◌, ◌<◌, ℕ, List, true}
use Rattle.ws_kinds.specs.NoteValue.{NoteValue}
use Rattle.run_meaning.specs.Server as run
use Rattle.run_meaning.specs.Quiet.{quiet}
use Rattle.run_meaning.specs.Timely.{Timely}
use Rattle.hub_lines.specs.State.{HubState, is_present}
use Rattle.hub_notes.specs.Quiet.{counts_at}

-- The hub has counted what the notes say, of each connection that is not gone; and its end is not due yet.
pub record Counts {State : Type 0} (meaning : run.Server State) (notes : List NoteValue) (hub : HubState) : Type 0 where
  pub counts : (conn : ℕ) → is_present hub conn ≡ true → counts_at hub conn ≡ quiet meaning notes conn
  pub ticks : (conn : ℕ) → is_present hub conn ≡ true → (counts_at hub conn).ticks < hub.config.idle
  pub leaving : (conn : ℕ) → is_present hub conn ≡ true → (counts_at hub conn).leaving < hub.config.leave

-- The hub has counted what the notes say, and who was pinged and ended by its ticks was right.
pub record IsTicked {State : Type 0} (meaning : run.Server State) (notes : List NoteValue) (hub : HubState) : Type 0 where
  pub counts : Counts meaning notes hub
  pub timely : Timely meaning hub.config notes
