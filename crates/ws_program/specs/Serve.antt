-- What the command `serve` did, over whatever net and watch.
use Rattle.std.specs.Prelude.{◌≡◌, ◌≤◌, ◌<◌, ◌⊎◌, ◌+◌, ◌-◌, ◌^◌, ℕ, List, [], ◌∷◌, Option, Some, Bool, true, false, codes, length}
use Rattle.ws_kinds.specs.ConfigValue.{ConfigValue}
use Rattle.ws_kinds.specs.NoteValue.{NoteValue}
use Rattle.ws_kinds.specs.declared.watch.Watch.{Ghosts as WatchMeaning}
use Rattle.link_trait.specs.Link.{Rose}
use Rattle.link_trait.specs.NetState.{NetState}
use Rattle.link_trait.specs.declared.net.Net.{Ghosts as NetMeaning}
use Rattle.link_trait.specs.declared.net.NetEvent.TheVariants as event
use Rattle.link_trait.specs.declared.net.Outside.{Outside}
use Rattle.link_trait.specs.declared.sink.Sink.{Ghosts as SinkMeaning}
use Rattle.schedule_text.specs.Line.{line}
use Rattle.schedule_text.specs.Output.{parts, WritesText}
use Rattle.bus_handler.specs.Bus.{routes_of_bus}
use Rattle.run_meaning.specs.Settled.{Settled}
use Rattle.run_meaning.specs.Right.{Right}
use Rattle.run_meaning.specs.Replies.{AreReplies, HasReplies}
use Rattle.run_meaning.specs.Life.{LivedThroughout}
use Rattle.loop_runner.specs.Steps.{NotesTurns}
use Rattle.loop_runner.specs.Turns.{PassesTurns, Runs, NotesRun}
use Rattle.loop_runner.specs.declared.turns.Ran.{Ran}
use Rattle.ws_program.specs.BusServer.{bus_server}
use Rattle.ws_program.specs.declared.status.Status.{Status}
use Rattle.ws_program.specs.declared.status.Status.TheVariants.{Done, WriteFault, NetFault, OutOfMemory}

-- what the words of `serve` ask for
pub record Service : Type 0 where
  pub config : ConfigValue
  pub port : ℕ
  -- the most turns that are made, at least 1
  pub turns : ℕ

-- what the net holds, and the notes, where the watch tells them
pub record Outer : Type 0 where
  pub net : NetState
  pub told : Option (List NoteValue)

-- by the meanings of the net and of the watch
abbrev pub outer : {N W : Type 0} → NetMeaning N → WatchMeaning W → Outside N W → Outer
outer of_net of_watch out = record { net = of_net.state out.net; told = of_watch.told out.watch }

-- the same with the octets that were written to the sink, where it tells them, and the count of its faults
pub record Scene : Type 0 where
  pub out : Outer
  pub written : Option (List ℕ)
  pub write_faults : ℕ

abbrev pub scene : {N W K : Type 0} → NetMeaning N → WatchMeaning W → SinkMeaning K → Outside N W → K → Scene
scene of_net of_watch of_sink out sink = record { out = outer of_net of_watch out; written = of_sink.written sink; write_faults = of_sink.faults sink }

-- ---- the run

-- The notes, the net and what is held for each connection, where these topics may be subscribed to, with these texts of replies: the
-- run is right, and all is settled. What is held has a bound.
pub record IsServed (admits : List ℕ → Bool) (config : ConfigValue) (notes : List NoteValue) (net : NetState) (held replies : ℕ → List ℕ) : Type 0 where
  pub right : Right (bus_server admits replies) config routes_of_bus notes net tt held
  pub settled : Settled (bus_server admits replies) notes net (record { pending = 0; gathered = []; backlog = held })
  -- at the end of each turn, what was heard of each connection is what the octets say that were given until then
  pub throughout : LivedThroughout (bus_server admits replies) routes_of_bus config.max_message notes net.given
  pub bounded : (conn : ℕ) → length (held conn) ≤ config.limit + config.max_message + 512

-- there are texts of replies that agree with the judging, and for all of them the run is as it should be
pub record AreNotesOf (admits : List ℕ → Bool) (config : ConfigValue) (notes : List NoteValue) (net : NetState) : Type 0 where
  pub held : ℕ → List ℕ
  pub texts : HasReplies routes_of_bus notes net.given
  pub run : (replies : ℕ → List ℕ) → AreReplies routes_of_bus notes net.given replies → IsServed admits config notes net held replies

-- a net that tells, of which nothing was asked and no connection is live, with a watch that noted nothing
pub record IsUnused (out : Outer) : Type 0 where
  pub tells : out.net.tells ≡ true
  pub none : out.net.passed ≡ []
  pub quiet : (conn : ℕ) → out.net.live conn ≡ false
  pub unnoted : out.told ≡ Some []

-- where both began so, and no more was told than can be counted, the notes are those of such a run
abbrev pub IsRightRun : (List ℕ → Bool) → ConfigValue → Outer → Outer → Type 0
IsRightRun admits config old new = IsUnused old → (notes : List NoteValue) → new.told ≡ Some notes → length notes < 2 ^ 64 - 1 → length new.net.passed < 2 ^ 64 - 1
    → AreNotesOf admits config notes new.net

-- how often turns ended with Turn: as often as was asked for; or the last of them ended with Stop, and at most so many were made
abbrev pub EndsTurns : ℕ → ℕ → NetState → NetState → Type 0
EndsTurns asked made old new = ((made ≡ asked) × PassesTurns asked [] old new)
    ⊎ ((1 ≤ made) × (made ≤ asked) × PassesTurns (made - 1) (event.Stop ∷ []) old new)

-- The server listened at the port, and made so many turns.
pub record ServesTurns (admits : List ℕ → Bool) (asked : Service) (made : ℕ) (old new : Outer) : Type 0 where
  pub port : new.net.port ≡ Some asked.port
  pub ends : EndsTurns asked.turns made old.net new.net
  pub noted : NotesTurns made old.told new.told
  pub serves : IsRightRun admits asked.config old new

-- The server listened at the port, and made some turns; the last of them ended with a fault of the net, which counted it.
pub record FailsInTurn (admits : List ℕ → Bool) (asked : Service) (old new : Outer) : Type 0 where
  pub before : ℕ
  pub port : new.net.port ≡ Some asked.port
  pub fewer : before < asked.turns
  pub ends : PassesTurns before (event.Failed ∷ []) old.net new.net
  pub serves : IsRightRun admits asked.config old new
  pub rose : Rose old.net.faults new.net.faults

-- The net did not listen, for a fault which it counted. Nothing else was asked of it, and nothing was noted.
pub record FailsToListen (old new : Outer) : Type 0 where
  pub passed : old.net.tells ≡ true → new.net.passed ≡ old.net.passed
  pub told : new.told ≡ old.told
  pub rose : Rose old.net.faults new.net.faults

-- ---- how it ends

-- the line of a server that made so many turns
abbrev pub served_line : ℕ → List ℕ
served_line made = line (parts (codes "served") (made ∷ []) [])

-- turns were made, and then all of the line that tells their number was written; or a front of it, before a fault of the sink
abbrev pub ServesTo : (List ℕ → Bool) → Bool → Service → Scene → Scene → Type 0
ServesTo admits all asked old new = (made : ℕ) × ServesTurns admits asked made old.out new.out
    × WritesText (served_line made) old.written new.written old.write_faults new.write_faults all

-- nothing was written, and the sink had no fault
pub record LeavesSink (old new : Scene) : Type 0 where
  pub written : new.written ≡ old.written
  pub faults : new.write_faults ≡ old.write_faults

-- How a run of the command `serve` ends, by its status and by what net, watch and sink told before it and after it.
abbrev pub ServeEnds : (List ℕ → Bool) → Service → Status → Scene → Scene → Type 0
ServeEnds admits asked Done old new = ServesTo admits true asked old new
ServeEnds admits asked WriteFault old new = ServesTo admits false asked old new
ServeEnds admits asked NetFault old new = (FailsToListen old.out new.out ⊎ FailsInTurn admits asked old.out new.out) × LeavesSink old new
ServeEnds admits asked OutOfMemory old new = new ≡ old
ServeEnds admits asked status old new = ⊥

-- ---- step by step

-- a run of the loop by a new server, by how it ended
pub record RunsNew (admits : List ℕ → Bool) (config : ConfigValue) (end : Ran) (turns : ℕ) (old new : Outer) : Type 0 where
  pub port : new.net.port ≡ old.net.port
  pub runs : Runs end turns old.net new.net
  pub noted : NotesRun end turns old.told new.told
  pub serves : IsRightRun admits config old new

-- the turns were made, and what became of the line that tells their number
abbrev pub WritesServed : ℕ → Status → (written written' : Option (List ℕ)) → (faults faults' : ℕ) → Type 0
WritesServed made Done written written' faults faults' = WritesText (served_line made) written written' faults faults' true
WritesServed made WriteFault written written' faults faults' = WritesText (served_line made) written written' faults faults' false
WritesServed made status written written' faults faults' = ⊥
