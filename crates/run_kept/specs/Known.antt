-- Who was accepted and who is gone, by the notes beside a world and beside a hub.
use Rattle.std.specs.Prelude.{◌≡◌, ℕ, List, Option, is_some, true, false}
use Rattle.ws_kinds.specs.declared.note.Phase.{Phase}
use Rattle.ws_kinds.specs.NoteValue.{NoteValue}
use Rattle.run_meaning.specs.Counts.{is_accepted, is_gone_in}
use Rattle.run_meaning.specs.Lines.{World, is_gone_phase}
use Rattle.hub_lines.specs.State.{Server}
use Rattle.hub_notes.specs.Progress.{progress_at}

-- in this world a connection has a phase exactly where the notes accepted it, and it is gone exactly where they say so
pub record Known {State : Type 0} (world : World State) (notes : List NoteValue) : Type 0 where
  pub accepted : (conn : ℕ) → is_some (world.line conn).phase ≡ is_accepted conn notes
  pub gone : (conn : ℕ) → is_gone_phase (world.line conn).phase ≡ is_gone_in conn notes

-- a connection that is shown in a phase was accepted by the notes, which do not say that it is gone
pub record IsHere (phase : Option Phase) (conn : ℕ) (notes : List NoteValue) : Type 0 where
  pub accepted : is_some phase ≡ true → is_accepted conn notes ≡ true
  pub stays : is_some phase ≡ true → is_gone_in conn notes ≡ false

-- and so for each connection of a hub
abbrev pub Shows : List NoteValue → Server → Type 0
Shows notes s = (conn : ℕ) → IsHere (progress_at s.hub conn).phase conn notes
