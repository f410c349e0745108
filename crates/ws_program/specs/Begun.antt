-- A run over a net in memory whose first turn is made by itself.
use Rattle.std.specs.Prelude.{◌≡◌, ◌≤◌, ◌<◌, ◌^◌, ℕ, List, [], None, Bool, true, length}
use Rattle.std.specs.List.{count_by}
use Rattle.ws_kinds.specs.ConfigValue.{usual_config}
use Rattle.ws_kinds.specs.Recorder.{RecorderState, told_by}
use Rattle.link_trait.specs.declared.act.Act.{Act}
use Rattle.link_trait.specs.declared.net.Outside.{Outside}
use Rattle.mem_net.specs.MemNet.{FollowsSchedule, MemNetState, net_state, start_net}
use Rattle.made_schedule.specs.Made.{made_acts}
use Rattle.made_life.specs.Turn.{FirstTurn}
use Rattle.route_table.specs.Table.{RouteTable}
use Rattle.bus_handler.specs.Bus.{routes_of_bus}
use Rattle.run_meaning.specs.Counts.{number_of}
use Rattle.run_meaning.specs.Notes.{is_turn}
use Rattle.hub_lines.specs.State.{HubState, Server, server}
use Rattle.run_kept.specs.Ends.{AreThere}
use Rattle.run_kept.specs.Kept.{IntakeView}
use Rattle.loop_runner.specs.declared.intakes.Intakes.{Intakes}
use Rattle.loop_runner.specs.Keeps.{AreViews, Beginning, EndsWithTurn, IsBetweenTurns, IsLivedThroughout, IsRight, IsSettled, KeptAll}
use Rattle.loop_runner.specs.Ready.{Ready}
use Rattle.loop_runner.specs.Turns.{PassesTurns}
use Rattle.ws_program.specs.BusServer.{bus_beginning, bus_server}
use Rattle.ws_program.specs.NewServer.{IsNewServer}
use Rattle.ws_program.specs.Replay.{CanRun, HasRun}
use Rattle.ws_program.specs.Replayed.{is_turn_act}
use Rattle.ws_program.specs.declared.serve.NewServer.{NewServer}

-- what a server and a net in memory hold
pub record Memory : Type 0 where
  pub hub : HubState
  pub intakes : Intakes
  pub table : RouteTable
  pub net : MemNetState
  pub watch : RecorderState

abbrev pub seen : NewServer → Outside MemNetState RecorderState → Memory
seen server out = record { hub = server.hub; intakes = server.intakes; table = server.routes; net = out.net; watch = out.watch }

abbrev pub server_of : Memory → Server
server_of m = server m.hub (net_state m.net) (told_by m.watch)

-- a net in memory follows these acts, and some of them end turns
abbrev pub can_begin : List Act → Type 0
can_begin acts = CanRun acts × (1 ≤ count_by is_turn_act acts)

-- no turn was made yet
pub record IsUnrun (m : Memory) : Type 0 where
  pub can : can_begin m.net.acts
  pub new : IsNewServer m.hub m.intakes m.table
  pub configured : m.hub.config ≡ usual_config
  pub starts : m.net ≡ start_net m.net.acts
  pub unnoted : m.watch ≡ record { notes = []; whole = true }

-- what holds of a run of the built-in handler behind a turn
pub record IsBehindTurn (b : Beginning (Unit {0})) (intakes : Intakes) (s : Server) : Type 0 where
  pub ready : Ready intakes s
  pub views : ℕ → IntakeView
  pub are : AreViews intakes views
  pub kept : KeptAll b s tt views None
  pub there : AreThere s
  pub right : IsRight b s tt
  pub settled : IsSettled b s
  pub throughout : IsLivedThroughout b s
  pub between : IsBetweenTurns s.told
  pub last : EndsWithTurn s.told

-- the first turn was made, and all of it was noted
pub record HasBegun (admits : List ℕ → Bool) (m : Memory) : Type 0 where
  pub can : can_begin m.net.acts
  pub of_bus : m.table ≡ routes_of_bus
  pub follows : FollowsSchedule m.net
  pub passes : PassesTurns 1 [] (net_state (start_net m.net.acts)) (net_state m.net)
  pub whole : m.watch.whole ≡ true
  pub few : length m.watch.notes < 2 ^ 64
  pub one : number_of is_turn m.watch.notes ≡ 1
  pub behind : IsBehindTurn (bus_beginning admits usual_config m.table) m.intakes (server_of m)

-- what there is after a run of these acts: where a seed made them, it had such a first turn
pub record HasMade (admits : List ℕ → Bool) (acts : List Act) (hub : HubState) (net : MemNetState) (recorder : RecorderState) : Type 0 where
  pub run : HasRun admits usual_config acts hub net recorder
  pub first : (seed : ℕ) → acts ≡ made_acts seed → FirstTurn (bus_server admits) tt seed recorder.notes (net_state net).given
