-- What the net answered in a turn, and in a run.
use Rattle.std.specs.Prelude.{◌≡◌, ◌≤◌, ◌<◌, ◌-◌, ◌^◌, ⊤, ℕ, List, [], ◌∷◌, ◌++◌, Option, Bool, true, false, length, take}
use Rattle.std.specs.List.{list_all}
use Rattle.link_trait.specs.Link.{Rose}
use Rattle.link_trait.specs.NetState.{NetState}
use Rattle.link_trait.specs.declared.net.NetEvent.{NetEvent}
use Rattle.link_trait.specs.declared.net.NetEvent.TheVariants as event
use Rattle.link_trait.specs.Net.{is_rest}
use Rattle.run_meaning.specs.Counts.{number_of}
use Rattle.ws_kinds.specs.NoteValue.{NoteValue}
use Rattle.hub_lines.specs.State.{Server}
use Rattle.loop_runner.specs.Steps.{NotesTurns, RisesBeyond}
use Rattle.loop_runner.specs.declared.turns.Ran.{Ran}
use Rattle.loop_runner.specs.declared.turns.Ran.TheVariants as ran
use Rattle.loop_runner.specs.declared.turn.Turned.{Turned}
use Rattle.loop_runner.specs.declared.turn.Turned.TheVariants as turned

-- an answer that ends no turn
abbrev pub is_between : NetEvent → Bool
is_between (event.Accept conn) = true
is_between event.Tick = true
is_between _ = false

-- the answer that ended the turn
abbrev pub ending : Turned → NetEvent
ending turned.Turn = event.Turn
ending turned.Stop = event.Stop
ending turned.Failed = event.Failed

-- the list of answers grew at its end by these, as far as it had room: it stands still at 2 ^ 64 - 1
abbrev pub GrowsBy : List NetEvent → List NetEvent → List NetEvent → Type 0
GrowsBy answers old new = new ≡ old ++ take (2 ^ 64 - 1 - length old) answers

-- where the net tells: it gave answers of which P holds, and then these last ones; and its count of faults did not fall
pub record Passes (P : List NetEvent → Type 0) (last : List NetEvent) (old new : NetState) : Type 0 where
  pub tells : new.tells ≡ old.tells
  pub told : old.tells ≡ true → (answers : List NetEvent) × P answers × GrowsBy (answers ++ last) old.passed new.passed
  pub faults : old.faults ≤ new.faults

abbrev pub AreBetween : List NetEvent → Type 0
AreBetween answers = list_all is_between answers ≡ true

-- no answer ended the turn
abbrev pub PassesBetween : NetState → NetState → Type 0
PassesBetween old new = Passes AreBetween [] old new

-- the last answer ended the turn in this way, and none before
abbrev pub PassesTurn : Turned → NetState → NetState → Type 0
PassesTurn end old new = Passes AreBetween (ending end ∷ []) old new

-- the count of faults rose; and where the watch tells, it rose by one more than links failed by the notes
pub record FailsBeyondLinks (old new : Server) : Type 0 where
  pub rose : Rose old.net.faults new.net.faults
  pub beyond : RisesBeyond 1 0 old new

-- a turn ends as failed only there
abbrev pub FailsAs : Turned → Server → Server → Type 0
FailsAs turned.Failed old new = FailsBeyondLinks old new
FailsAs _ old new = ⊤

-- an answer after which a run goes on: it ends no turn, or it is Turn
abbrev pub goes_on : NetEvent → Bool
goes_on event.Turn = true
goes_on answer = is_between answer

-- so many of the answers ended a turn, and all of these are Turn
abbrev pub AreTurns : ℕ → List NetEvent → Type 0
AreTurns count answers = (list_all goes_on answers ≡ true) × (number_of is_rest answers ≡ count)

-- so many turns ended with Turn, and then it gave these answers
abbrev pub PassesTurns : ℕ → List NetEvent → NetState → NetState → Type 0
PassesTurns count last old new = Passes (AreTurns count) last old new

-- How a run ended. The last of so many turns ended with Stop, and all others with Turn. All turns ended with Turn. Or one of the turns
-- ended with Failed, those before it with Turn, and the count of faults rose.
abbrev pub Runs : Ran → ℕ → NetState → NetState → Type 0
Runs (ran.Stopped count) turns old new = (1 ≤ count) × (count ≤ turns) × PassesTurns (count - 1) (event.Stop ∷ []) old new
Runs ran.Spent turns old new = PassesTurns turns [] old new
Runs ran.NetFault turns old new = (before : ℕ) × (before < turns) × PassesTurns before (event.Failed ∷ []) old new × Rose old.faults new.faults

-- a run ends with a fault of the net only where one turn failed so
abbrev pub RunFailsAs : Ran → Server → Server → Type 0
RunFailsAs ran.NetFault old new = FailsBeyondLinks old new
RunFailsAs _ old new = ⊤

-- where the watch tells, as many Turn notes were added as turns were made
abbrev pub NotesRun : Ran → ℕ → Option (List NoteValue) → Option (List NoteValue) → Type 0
NotesRun (ran.Stopped count) turns old new = NotesTurns count old new
NotesRun ran.Spent turns old new = NotesTurns turns old new
NotesRun ran.NetFault turns old new = (count : ℕ) × (1 ≤ count) × (count ≤ turns) × NotesTurns count old new
