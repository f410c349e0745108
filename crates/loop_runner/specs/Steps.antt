-- What holds within a turn, and what each step keeps.
use Rattle.std.specs.Prelude.{◌≡◌, ◌≢◌, ◌≤◌, ◌⊎◌, ◌+◌, ◌-◌, ◌^◌, ⊤, ℕ, List, ◌++◌, zero, suc, Option, Some, Bool, true, false, is_some, if◌then◌else◌}
use Rattle.ws_kinds.specs.declared.note.Phase.{Phase}
use Rattle.ws_kinds.specs.declared.note.Phase.TheVariants.{Head, Open, Leaving}
use Rattle.ws_kinds.specs.NoteValue.{NoteValue}
use Rattle.run_meaning.specs.Counts.{number_of}
use Rattle.run_meaning.specs.Lines.{is_open}
use Rattle.run_meaning.specs.Notes.{is_turn}
use Rattle.run_meaning.specs.Performs.{is_link_failure}
use Rattle.run_meaning.specs.Settled.{is_reading}
use Rattle.frame_reader.specs.declared.reader.Reader.{Reader}
use Rattle.frame_reader.specs.Reader as reader
use Rattle.frame_reader.specs.Reader.{has_ended}
use Rattle.hub_lines.specs.State.{HubState, Server, is_present, phase_at}
use Rattle.hub_lines.specs.Calls.{Ties, ShortRings}
use Rattle.hub_notes.specs.Progress.{Progress, progress_at}
use Rattle.hub_notes.specs.Fronts.{RingsWait}
use Rattle.hub_notes.specs.Table.{IsTable, is_kept, table_of}
use Rattle.hub_notes.specs.Turns.{Offers}
use Rattle.run_told.specs.Pass.{KeepsOwed}
use Rattle.run_kept.specs.Ends.{AreThere}
use Rattle.loop_runner.specs.declared.intakes.Intake.{Intake}
use Rattle.loop_runner.specs.declared.intakes.Intakes.{Intakes}
use Rattle.loop_runner.specs.Intakes.{max_of, intake_at, is_admitted}
use Rattle.loop_runner.specs.Ready.{IsTaken, IsAsked}

-- which connections are meant: all, or all but one
abbrev pub Every : ℕ → Type 0
Every conn = ⊤

abbrev pub But : ℕ → ℕ → Type 0
But conn other = other ≢ conn

-- The notes only grow, and so does what was read of each connection, where net and watch tell; the net's schedule and its
-- port stay.
pub record Grows (old new : Server) : Type 0 where
  pub tells : new.net.tells ≡ old.net.tells
  pub schedule : new.net.schedule ≡ old.net.schedule
  pub port : new.net.port ≡ old.net.port
  pub told : (after : List NoteValue) → new.told ≡ Some after → (notes : List NoteValue) × (later : List NoteValue) × (old.told ≡ Some notes) × (after ≡ notes ++ later)
  pub given : old.net.tells ≡ true → (conn : ℕ) → (behind : List ℕ) × (new.net.given conn ≡ old.net.given conn ++ behind)

-- where the watch tells: it told before, and this holds of the notes then and now
abbrev pub OfNotes : Option (List NoteValue) → Option (List NoteValue) → (List NoteValue → List NoteValue → Type 0) → Type 0
OfNotes old new P = (after : List NoteValue) → new ≡ Some after → (notes : List NoteValue) × (old ≡ Some notes) × P notes after

-- so many Turn notes were added
abbrev pub NotesTurns : ℕ → Option (List NoteValue) → Option (List NoteValue) → Type 0
NotesTurns count old new = OfNotes old new (λ notes after. number_of is_turn after ≡ number_of is_turn notes + count)

-- the count of faults rose by one for each link that failed by the notes that were added, and by `more`, but for `owed` of them;
-- or it stands at its end
abbrev pub RisesBeyond : ℕ → ℕ → Server → Server → Type 0
RisesBeyond more owed old new = OfNotes old.told new.told (λ notes after.
    (old.net.faults + number_of is_link_failure after + more ≤ new.net.faults + number_of is_link_failure notes + owed) ⊎ (2 ^ 64 - 1 ≤ new.net.faults))

-- What every step keeps, also one that takes a connection in: the net was not asked what is next. It notes so many turns, and so many
-- links that failed before it.
pub record Onward (count owed : ℕ) (old new : Server) : Type 0 where
  pub grows : Grows old new
  pub turns : NotesTurns count old.told new.told
  pub room : new.net.room ≤ old.net.room
  pub passed : old.net.tells ≡ true → new.net.passed ≡ old.net.passed
  pub faults : old.net.faults ≤ new.net.faults
  pub links : RisesBeyond 0 owed old new
  -- what the handler was not told yet stands to be told
  pub telling : KeepsOwed count old new

-- how many Closed events a connection can still have: one while it is open, and one that is due
abbrev pub weight_of : Progress → ℕ
weight_of progress = (if is_open progress.phase then 1 else 0) + (if is_some progress.due then 1 else 0)

abbrev pub weight_at : HubState → ℕ → ℕ
weight_at hub conn = weight_of (progress_at hub conn)

-- how many the connections below a number can have
abbrev pub weight_below : ℕ → HubState → ℕ
weight_below zero hub = 0
weight_below (suc bound) hub = weight_at hub bound + weight_below bound hub

-- a connection is an entry, as the hub tells
abbrev pub is_kept_at : HubState → ℕ → Bool
is_kept_at hub conn = is_kept hub.entries hub.partings conn

-- the phase is as it was, or it was Open and a Close was served
abbrev pub StaysOrLeaves : Option Phase → Option Phase → Type 0
StaysOrLeaves old new = (new ≡ old) ⊎ ((old ≡ Some Open) × (new ≡ Some Leaving))

-- what a step that takes no connection in keeps, and what it keeps of these connections
pub record StepsWith (count owed : ℕ) (P : ℕ → Type 0) (old new : Server) : Type 0 where
  pub onward : Onward count owed old new
  pub config : new.hub.config ≡ old.hub.config
  pub named : new.hub.named ≡ old.hub.named
  pub net_named : new.net.named ≡ old.net.named
  pub table : IsTable (table_of old.hub) → IsTable (table_of new.hub)
  pub ties : Ties old → Ties new
  pub short : ShortRings old → ShortRings new
  pub waits : RingsWait old → RingsWait new
  -- where each live link was that of an entry which is not gone, it is so
  pub there : AreThere old → AreThere new
  -- nobody becomes an entry, and nobody becomes one that is read
  pub kept : (conn : ℕ) → is_kept_at new.hub conn ≡ true → is_kept_at old.hub conn ≡ true
  pub reading : (conn : ℕ) → is_reading (phase_at new.hub conn) ≡ true → is_reading (phase_at old.hub conn) ≡ true
  pub due : (conn : ℕ) → P conn → is_reading (phase_at new.hub conn) ≡ true → new.net.due conn ≡ old.net.due conn
  pub phase : (conn : ℕ) → P conn → is_reading (phase_at new.hub conn) ≡ true → StaysOrLeaves (phase_at old.hub conn) (phase_at new.hub conn)
  pub weight : (conn : ℕ) → P conn → weight_at new.hub conn ≤ weight_at old.hub conn

-- the same of one that notes no turn, and no link that failed before it
abbrev pub Steps : (ℕ → Type 0) → Server → Server → Type 0
Steps P old new = StepsWith 0 0 P old new

-- Octets of a connection were taken, with the reader that becomes `after`: all that came of it was taken, but for what waits
-- for more, and none are ready.
pub record Takes (conn : ℕ) (before after : Reader) (old new : Server) : Type 0 where
  pub steps : Steps (But conn) old new
  pub asked : IsAsked conn new
  pub taken : IsTaken (phase_at new.hub conn) after
  pub max : reader.max_of after ≡ reader.max_of before

-- What is held for a connection is offered to its link, where it is an entry that is not gone, and else nothing changes.
pub record OffersIfThere (conn : ℕ) (old new : Server) : Type 0 where
  pub there : is_present old.hub conn ≡ true → Offers conn old new
  pub away : is_present old.hub conn ≡ false → new ≡ old

-- what holds within a turn, and of these connections what holds between events
pub record Running (P : ℕ → Type 0) (intakes : Intakes) (s : Server) : Type 0 where
  pub max : s.hub.config.max_message ≡ max_of intakes
  pub kept : (conn : ℕ) → is_kept_at s.hub conn ≡ true → is_admitted intakes conn ≡ true
  pub table : IsTable (table_of s.hub)
  pub ties : Ties s
  pub named : s.hub.named ≤ s.net.named
  pub short : ShortRings s
  pub waits : RingsWait s
  pub readers : (conn : ℕ) (intake : Intake) → intake_at intakes conn ≡ Some intake → reader.max_of intake.reader ≡ max_of intakes
  pub asked : (conn : ℕ) → P conn → IsAsked conn s
  pub taken : (conn : ℕ) → P conn → (intake : Intake) → intake_at intakes conn ≡ Some intake → IsTaken (phase_at s.hub conn) intake.reader

-- frames of a connection in this phase can be read
abbrev pub HasFrames : Option Phase → Reader → Type 0
HasFrames (Some Head) reader = ⊥
HasFrames (Some Open) reader = has_ended reader ≡ false
HasFrames (Some Leaving) reader = has_ended reader ≡ false
HasFrames _ reader = ⊤
