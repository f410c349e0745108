-- What one event does within a turn, what one turn does, and what a run does.
use Rattle.std.specs.Prelude.{◌≡◌, ◌<◌, ◌≤◌, ◌-◌, ◌^◌, ℕ, List, length, Option, None, Bool, true, IfNone, IfSome}
use Rattle.ws_kinds.specs.ConfigValue.{ConfigValue}
use Rattle.ws_kinds.specs.declared.handler.Handler.{Ghosts as HandlerMeaning}
use Rattle.link_trait.specs.Net.{is_rest}
use Rattle.link_trait.specs.declared.net.NetEvent.{NetEvent}
use Rattle.route_table.specs.Table.{RouteTable}
use Rattle.hub_lines.specs.State.{Server}
use Rattle.hub_notes.specs.Progress.{due_at}
use Rattle.run_told.specs.Pass.{TellsAll}
use Rattle.run_kept.specs.Kept.{IntakeView}
use Rattle.run_kept.specs.Ends.{AreThere}
use Rattle.loop_runner.specs.declared.intakes.Intakes.{Intakes}
use Rattle.loop_runner.specs.declared.turn.Turned.{Turned}
use Rattle.loop_runner.specs.declared.turns.Ran.{Ran}
use Rattle.loop_runner.specs.Keeps.{Beginning, beginning, KeptAll, AreViews, IsRight, IsBetweenTurns, IsSettled, IsSettledIfTold, IsLivedThroughout, EndsWithTurn}
use Rattle.loop_runner.specs.Ready.{Ready}
use Rattle.loop_runner.specs.Steps.{Every, Grows, NotesTurns, RisesBeyond, StepsWith, Running}
use Rattle.loop_runner.specs.Turns.{PassesBetween, PassesTurn, FailsAs, Runs, RunFailsAs, NotesRun}
use Rattle.loop_runner.specs.Moments.{Moment, IsKeptThen, KeepsNext, SettlesNext}

-- where it was kept before, for a beginning where these topics may be subscribed to, with these routes, and few answers of the net
-- were counted, this holds
abbrev pub WhereKept : {H : Type 0} {handler : HandlerMeaning H} → (List ℕ → Bool) → RouteTable → Intakes → Moment handler → Moment handler → (Beginning handler.State → Type 0) → Type 0
WhereKept {H} {handler} admits table before old new P = (start : handler.State) (config : ConfigValue) (views : ℕ → IntakeView) → length new.server.net.passed < 2 ^ 64 - 1
    → AreViews before views → KeptAll (beginning handler admits start config table) old.server old.now views None → P (beginning handler admits start config table)

-- an event of the net that ended no turn
pub record Between (intakes : Intakes) (old new : Server) : Type 0 where
  pub running : Running Every intakes new
  pub none : (conn : ℕ) → due_at new.hub conn ≡ None
  pub fell : new.net.room < old.net.room
  pub passed : PassesBetween old.net new.net
  pub turns : NotesTurns 0 old.told new.told

-- an event of the net that ended the turn
pub record Ended (end : Turned) (intakes : Intakes) (old new : Server) : Type 0 where
  pub ready : Ready intakes new
  pub passed : PassesTurn end old.net new.net
  pub failed : FailsAs end old new
  pub turns : NotesTurns 1 old.told new.told
  pub last : EndsWithTurn new.told

-- one event of the net, by how it ended the turn, if it did
pub record TakesEvent {H : Type 0} {handler : HandlerMeaning H} (admits : List ℕ → Bool) (table : RouteTable) (end : Option Turned) (before after : Intakes) (old new : Moment handler) : Type 0 where
  pub between : IfNone end (Between after old.server new.server)
  pub ended : IfSome end (λ turned. Ended turned after old.server new.server)
  pub grows : Grows old.server new.server
  pub links : RisesBeyond 0 0 old.server new.server
  pub there : AreThere old.server → AreThere new.server
  -- who was told of all that was to be told as the turn began, was so still
  pub told : (start : Server) → TellsAll start old.server → TellsAll start new.server
  pub kept : WhereKept admits table before old new (IsKeptThen after new)
  pub settled : IfSome end (λ turned. WhereKept admits table before old new (λ b. AreThere old.server → IsSettledIfTold b new.server))

-- the end of a turn, after an answer of the net that ended it
pub record EndsEvents {H : Type 0} {handler : HandlerMeaning H} (before after : Intakes) (old new : Moment handler) : Type 0 where
  pub ready : Ready after new.server
  pub steps : StepsWith 1 0 Every old.server new.server
  pub last : EndsWithTurn new.server.told
  pub kept : (admits : List ℕ → Bool) (table : RouteTable) (answer : NetEvent) → is_rest answer ≡ true → KeepsNext answer admits table before after old new
  pub settled : (admits : List ℕ → Bool) (table : RouteTable) (answer : NetEvent) → is_rest answer ≡ true → SettlesNext answer admits table before old new

-- one turn, by how it ended
pub record MakesTurn {H : Type 0} {handler : HandlerMeaning H} (admits : List ℕ → Bool) (table : RouteTable) (end : Turned) (before after : Intakes) (old new : Moment handler) : Type 0 where
  pub ready : Ready after new.server
  pub passed : PassesTurn end old.server.net new.server.net
  pub failed : FailsAs end old.server new.server
  pub grows : Grows old.server new.server
  pub links : RisesBeyond 0 0 old.server new.server
  pub turns : NotesTurns 1 old.server.told new.server.told
  pub kept : WhereKept admits table before old new (IsKeptThen after new)
  pub right : WhereKept admits table before old new (λ b. IsRight b new.server new.now)
  pub there : AreThere old.server → AreThere new.server
  pub settled : WhereKept admits table before old new (λ b. AreThere old.server → IsBetweenTurns old.server.told → IsSettled b new.server)
  pub last : EndsWithTurn new.server.told
  pub throughout : WhereKept admits table before old new (λ b. IsLivedThroughout b old.server → IsLivedThroughout b new.server)

-- so many turns, one after another
pub record MakesTurns {H : Type 0} {handler : HandlerMeaning H} (admits : List ℕ → Bool) (table : RouteTable) (made : ℕ) (before after : Intakes) (old new : Moment handler) : Type 0 where
  pub ready : Ready after new.server
  pub grows : Grows old.server new.server
  pub links : RisesBeyond 0 0 old.server new.server
  pub turns : NotesTurns made old.server.told new.server.told
  pub kept : WhereKept admits table before old new (IsKeptThen after new)
  pub there : AreThere old.server → AreThere new.server
  pub between : IsBetweenTurns old.server.told → IsBetweenTurns new.server.told
  pub settled : 1 ≤ made → WhereKept admits table before old new (λ b. AreThere old.server → IsBetweenTurns old.server.told → IsSettled b new.server)
  pub last : 1 ≤ made → EndsWithTurn new.server.told
  pub throughout : WhereKept admits table before old new (λ b. IsLivedThroughout b old.server → IsLivedThroughout b new.server)

-- a run, by how it ended
pub record MakesRun {H : Type 0} {handler : HandlerMeaning H} (admits : List ℕ → Bool) (table : RouteTable) (end : Ran) (turns : ℕ) (before after : Intakes) (old new : Moment handler) : Type 0 where
  pub ready : Ready after new.server
  pub runs : Runs end turns old.server.net new.server.net
  pub failed : RunFailsAs end old.server new.server
  pub noted : NotesRun end turns old.server.told new.server.told
  pub grows : Grows old.server new.server
  pub kept : WhereKept admits table before old new (IsKeptThen after new)
  pub right : WhereKept admits table before old new (λ b. IsRight b new.server new.now)
  pub there : AreThere old.server → AreThere new.server
  pub between : IsBetweenTurns old.server.told → IsBetweenTurns new.server.told
  pub settled : 1 ≤ turns → WhereKept admits table before old new (λ b. AreThere old.server → IsBetweenTurns old.server.told → IsSettled b new.server)
  pub last : 1 ≤ turns → EndsWithTurn new.server.told
  pub throughout : WhereKept admits table before old new (λ b. IsLivedThroughout b old.server → IsLivedThroughout b new.server)
