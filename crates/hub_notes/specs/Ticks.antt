-- What a hub does in a tick.
use Rattle.std.specs.Prelude.{◌≡◌, ◌≤◌, ℕ, List, ◌∷◌, Bool, true, false, ◌||◌}
use Rattle.std.specs.List.{list_all}
use Rattle.ws_kinds.specs.declared.note.Left.TheVariants.{Idle, LinkFailed}
use Rattle.ws_kinds.specs.NoteValue as note
use Rattle.ws_kinds.specs.NoteValue.{NoteValue}
use Rattle.run_meaning.specs.Notes.{is_left}
use Rattle.run_meaning.specs.Counts.{number_of, is_gone_by_in}
use Rattle.run_meaning.specs.Performs.{is_outgoing}
use Rattle.run_meaning.specs.Steps.{by_note, of_notes}
use Rattle.run_meaning.specs.Timely.{is_pinged, one_if}
use Rattle.hub_lines.specs.State.{Server, is_present}
use Rattle.hub_notes.specs.Calls.{Does}
use Rattle.hub_notes.specs.NetAfter.{FailsAfter}
use Rattle.hub_notes.specs.Quiet.{counts_at, leaves_at, next_count, ping_due_at, end_due_at}

-- the note may follow a tick, before anything else comes
abbrev pub is_of_tick : NoteValue → Bool
is_of_tick (note.pinged conn) = true
is_of_tick (note.gone conn left) = is_left Idle left || is_left LinkFailed left
is_of_tick this = is_outgoing this

-- The tick is noted. Then each connection is counted, in order: it is pinged once, or gone as idle, only where that is due,
-- and wherever it is due, unless its link failed meanwhile.
pub record Ticks (old new : Server) : Type 0 where
  pub rest : List NoteValue
  pub of_tick : list_all is_of_tick rest ≡ true
  pub does : (texts : ℕ → List ℕ) → Does texts (by_note note.tick ∷ of_notes rest) old new
  pub fails : FailsAfter (note.tick ∷ rest) old.net new.net
  pub pings : (conn : ℕ) → is_present old.hub conn ≡ true → is_gone_by_in conn LinkFailed rest ≡ false → number_of (is_pinged conn) rest ≡ one_if (ping_due_at old.hub conn)
  pub pinged : (conn : ℕ) → number_of (is_pinged conn) rest ≤ one_if (ping_due_at old.hub conn)
  pub ends : (conn : ℕ) → is_present old.hub conn ≡ true → is_gone_by_in conn LinkFailed rest ≡ false → is_gone_by_in conn Idle rest ≡ end_due_at old.hub conn
  pub ended : (conn : ℕ) → is_gone_by_in conn Idle rest ≡ true → end_due_at old.hub conn ≡ true
  pub counts : (conn : ℕ) → is_present new.hub conn ≡ true → (is_present old.hub conn ≡ true) × (counts_at new.hub conn ≡ next_count (leaves_at old.hub conn) (counts_at old.hub conn))
