-- One order of a connection, and the subscriptions of a connection.
use Rattle.std.specs.Prelude.{◌≡◌, ℕ, List, [], ◌∷◌, Bool}
use Rattle.ws_kinds.specs.declared.note.Why.{Why}
use Rattle.ws_kinds.specs.NoteValue as note
use Rattle.ws_kinds.specs.OrderValue.{OrderValue}
use Rattle.run_meaning.specs.Steps.{by_note}
use Rattle.hub_lines.specs.State.{Server}
use Rattle.hub_lines.specs.Calls.{Ties}
use Rattle.hub_notes.specs.Calls.{Does}
use Rattle.hub_notes.specs.Serving.{Serves}
use Rattle.hub_notes.specs.Table.{IsTable, table_of}

-- It is noted that an order is not served, and nothing else happens.
pub record NotesUnserved (from number : ℕ) (why : Why) (old new : Server) : Type 0 where
  pub hub : new.hub ≡ old.hub
  pub ties : Ties new
  pub does : (texts : ℕ → List ℕ) → Does texts (by_note (note.unserved from number why) ∷ []) old new

-- An order of connection `from` with this number is served, or it is refused for its reason; these topics may be subscribed
-- to.
pub record ServesOrder (admits : List ℕ → Bool) (from number : ℕ) (order : OrderValue) (old new : Server) : Type 0 where
  pub ties : Ties new
  pub serves : Serves old.hub.config admits from number order old new
  pub named : new.hub.named ≡ old.hub.named
  pub table : IsTable (table_of new.hub)

-- So it is whichever topics may be subscribed to.
abbrev pub ServesByEachRule : ℕ → ℕ → OrderValue → Server → Server → Type 0
ServesByEachRule from number order old new = (admits : List ℕ → Bool) → ServesOrder admits from number order old new
