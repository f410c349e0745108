-- What a hub has to tell, beside what its notes say; and how it tells it.
use Rattle.std.specs.Prelude.{◌≡◌, ℕ, List, [], ◌∷◌, Bool}
use Rattle.ws_kinds.specs.NoteValue as note
use Rattle.ws_kinds.specs.NoteValue.{NoteValue}
use Rattle.run_meaning.specs.Server as run
use Rattle.run_meaning.specs.Told.{tell, held_after, ToldRight}
use Rattle.hub_lines.specs.State.{HubState, Server}
use Rattle.hub_lines.specs.Calls.{nothing}
use Rattle.hub_notes.specs.Answers.{Makes}
use Rattle.hub_notes.specs.Calls.{Appends}
use Rattle.hub_notes.specs.NextTold.{IsNextTold}
use Rattle.hub_notes.specs.Tells.{tell_at, held_in}

-- the hub has to tell what its notes say
abbrev pub Tellings : {State : Type 0} → run.Server State → List NoteValue → HubState → Type 0
Tellings meaning notes hub = (conn : ℕ) → tell_at hub conn ≡ tell meaning notes conn

-- and it holds as many octets as they say
abbrev pub HoldsAs : {State : Type 0} → run.Server State → List NoteValue → HubState → Type 0
HoldsAs meaning notes hub = (conn : ℕ) → held_after meaning notes conn ≡ held_in hub conn

-- The hub has to tell what its notes say, and what the handler was told was right.
pub record IsTold {State : Type 0} (meaning : run.Server State) (notes : List NoteValue) (hub : HubState) : Type 0 where
  pub tellings : Tellings meaning notes hub
  pub right : ToldRight meaning notes

-- It is handed out, and noted.
pub record TellsNext (after conn dropped : ℕ) (drained : Bool) (old new : Server) : Type 0 where
  pub next : IsNextTold after conn dropped drained old.hub
  pub makes : Makes (note.told conn dropped drained ∷ []) old new
  pub appends : Appends nothing old new
