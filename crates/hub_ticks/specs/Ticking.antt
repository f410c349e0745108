-- A tick, connection by connection.
use Rattle.std.specs.Prelude.{◌≡◌, ◌≤◌, ◌&&◌, ℕ, List, ◌∷◌, Bool, true, false, nat_eq, nat_lt, if◌then◌else◌}
use Rattle.std.specs.List.{list_all}
use Rattle.ws_kinds.specs.declared.note.Left.TheVariants.{Idle, LinkFailed}
use Rattle.ws_kinds.specs.NoteValue as note
use Rattle.ws_kinds.specs.NoteValue.{NoteValue}
use Rattle.run_meaning.specs.Counts.{number_of, is_gone_by_in}
use Rattle.run_meaning.specs.Quiet.{QuietCount}
use Rattle.run_meaning.specs.Steps.{by_note, of_notes}
use Rattle.run_meaning.specs.Timely.{is_pinged, one_if}
use Rattle.hub_lines.specs.State.{Server, is_present}
use Rattle.hub_lines.specs.Calls.{nothing}
use Rattle.hub_notes.specs.Calls.{Appends, Does}
use Rattle.hub_notes.specs.Progress.{progress_at}
use Rattle.hub_notes.specs.Quiet.{counts_at, leaves_at, next_count, ping_due_at, end_due_at}
use Rattle.hub_notes.specs.Tells.{tell_at}
use Rattle.hub_notes.specs.Ticks.{is_of_tick}

-- one connection is counted, and nothing else changes
pub record CountsOne (conn : ℕ) (old new : Server) : Type 0 where
  pub progress : (other : ℕ) → progress_at new.hub other ≡ progress_at old.hub other
  pub counts : (other : ℕ) → counts_at new.hub other ≡ (if nat_eq other conn then next_count (leaves_at old.hub other) (counts_at old.hub other) else counts_at old.hub other)
  pub tells : (other : ℕ) → tell_at new.hub other ≡ tell_at old.hub other
  pub net : new.net ≡ old.net
  pub told : new.told ≡ old.told
  pub appends : Appends nothing old new

-- the counts of a connection, which was counted or not yet
abbrev pub counted : Bool → Bool → QuietCount → QuietCount
counted done leaves count = if done then next_count leaves count else count

-- These notes tell of one connection what they are to tell, if it was counted; and nothing otherwise.
pub record TicksAt (done : Bool) (conn : ℕ) (rest : List NoteValue) (old new : Server) : Type 0 where
  pub pings : is_present old.hub conn ≡ true → is_gone_by_in conn LinkFailed rest ≡ false → number_of (is_pinged conn) rest ≡ one_if (done && ping_due_at old.hub conn)
  pub pinged : number_of (is_pinged conn) rest ≤ one_if (done && ping_due_at old.hub conn)
  pub ends : is_present old.hub conn ≡ true → is_gone_by_in conn LinkFailed rest ≡ false → is_gone_by_in conn Idle rest ≡ (done && end_due_at old.hub conn)
  pub ended : is_gone_by_in conn Idle rest ≡ true → (done && end_due_at old.hub conn) ≡ true
  pub counts : is_present new.hub conn ≡ true → (is_present old.hub conn ≡ true) × (counts_at new.hub conn ≡ counted done (leaves_at old.hub conn) (counts_at old.hub conn))

-- so far those below a number were counted
pub record TicksBelow (bound : ℕ) (old new : Server) : Type 0 where
  pub rest : List NoteValue
  pub of_tick : list_all is_of_tick rest ≡ true
  pub does : (texts : ℕ → List ℕ) → Does texts (by_note note.tick ∷ of_notes rest) old new
  pub at : (conn : ℕ) → TicksAt (nat_lt conn bound) conn rest old new

-- one connection is counted, and what is due is done
pub record TicksOne (conn : ℕ) (old new : Server) : Type 0 where
  pub between : Server
  pub counts_one : CountsOne conn old between
  pub rest : List NoteValue
  pub of_tick : list_all is_of_tick rest ≡ true
  pub does : (texts : ℕ → List ℕ) → Does texts (of_notes rest) between new
  pub at : (other : ℕ) → TicksAt (nat_eq other conn) other rest old new

-- where it is there; and where it is gone, nothing changes
pub record TicksIfThere (conn : ℕ) (old new : Server) : Type 0 where
  pub there : is_present old.hub conn ≡ true → TicksOne conn old new
  pub away : is_present old.hub conn ≡ false → new ≡ old
