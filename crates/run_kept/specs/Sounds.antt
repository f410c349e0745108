-- Notes each of which is sound at its place.
use Rattle.std.specs.Prelude.{◌≡◌, List, ◌∷◌, ◌++◌}
use Rattle.ws_kinds.specs.ConfigValue.{ConfigValue}
use Rattle.ws_kinds.specs.NoteValue.{NoteValue}
use Rattle.run_meaning.specs.Server as run
use Rattle.run_meaning.specs.Right.{Sound}

-- each note is sound beside the notes before it
abbrev pub AreSound : {State : Type 0} → run.Server State → ConfigValue → List NoteValue → Type 0
AreSound meaning config notes = (before rest : List NoteValue) (this : NoteValue) → notes ≡ before ++ this ∷ rest → Sound meaning config before this
