-- What a server keeps from step to step: the hub, the net, the readers and the handler beside the notes.
use Rattle.std.specs.Prelude.{◌≡◌, ◌≢◌, ⊤, ℕ, List, [], Option, Some, None, true}
use Rattle.ws_kinds.specs.declared.note.Phase.{Phase}
use Rattle.ws_kinds.specs.declared.note.Phase.TheVariants.{Head, Open, Leaving, Ending, Gone}
use Rattle.ws_kinds.specs.ConfigValue.{ConfigValue}
use Rattle.ws_kinds.specs.NoteValue.{NoteValue}
use Rattle.route_table.specs.Table.{RouteTable}
use Rattle.upgrade_head.specs.Judged.{Judged, more as undecided}
use Rattle.run_meaning.specs.Counts.{gather, accepted_by}
use Rattle.run_meaning.specs.Server as run
use Rattle.run_meaning.specs.Lines.{Line, phase, world}
use Rattle.run_meaning.specs.Life.{Heard, heard, last_frame}
use Rattle.run_meaning.specs.Orders.{Ordered}
use Rattle.run_meaning.specs.Network.{Follows}
use Rattle.hub_lines.specs.State.{Server, has_entry}
use Rattle.run_laws.specs.Agrees.{Agrees}
use Rattle.run_laws.specs.Numbers.{AreUnlike}
use Rattle.run_laws.specs.Readers.{ReaderView}
use Rattle.run_laws.specs.Hears.{HearsHead, HearsFrames, HearsAll, HearsFront}

-- what stands beside the hub for a connection: its reader, and the route and the parameter that it was opened with
pub record IntakeView : Type 0 where
  pub reader : ReaderView
  pub route : ℕ
  pub param : List ℕ

-- what was heard of a connection in this phase, beside its octets and its reader; `last` is its `last_frame`, which it has
-- from the time on when a Close was served for it
abbrev pub HearsAt : RouteTable → ℕ → Option Phase → Option ℕ → List Heard → List ℕ → ReaderView → Type 0
HearsAt table max None last heard octets reader = heard ≡ []
HearsAt table max (Some Head) last heard octets reader = (last ≡ None) × HearsHead max heard octets reader
HearsAt table max (Some Open) last heard octets reader = (last ≡ None) × HearsFrames table max None heard octets reader
HearsAt table max (Some Leaving) last heard octets reader = (count : ℕ) × (last ≡ Some count) × HearsFrames table max (Some count) heard octets reader
HearsAt table max (Some Ending) last heard octets reader = HearsAll table max last heard octets
HearsAt table max (Some Gone) last heard octets reader = HearsFront table max last heard octets

-- all that can be told of the octets that came was told
abbrev pub RestsAt : RouteTable → Option Phase → List ℕ → ReaderView → Type 0
RestsAt table (Some Head) octets reader = Judged table octets undecided
RestsAt table (Some Open) octets reader = reader.ahead [] ≡ []
RestsAt table (Some Leaving) octets reader = reader.ahead [] ≡ []
RestsAt table _ octets reader = ⊤

-- the intake has the route and the parameter of the line
abbrev pub IsRouted : IntakeView → Line → Type 0
IsRouted intake line = (intake.route ≡ line.route) × (intake.param ≡ line.param)

-- the reader of one connection changed, and nothing else
pub record SameButReader (conn : ℕ) (old new : ℕ → IntakeView) : Type 0 where
  pub route : (new conn).route ≡ (old conn).route
  pub param : (new conn).param ≡ (old conn).param
  pub others : (other : ℕ) → other ≢ conn → new other ≡ old other

-- What holds between two steps, with these notes; of the connection that is being read, if there is one, more may be told.
pub record Kept {State : Type 0} (meaning : run.Server State) (config : ConfigValue) (table : RouteTable) (notes : List NoteValue) (s : Server) (now : State) (intakes : ℕ → IntakeView)
    (reading : Option ℕ) : Type 0 where
  pub agrees : Agrees (world meaning notes) notes s
  pub follows : Follows notes s.net
  pub ordered : Ordered meaning config notes
  pub state : now ≡ (world meaning notes).state
  pub unlike : AreUnlike (gather accepted_by notes)
  pub configured : s.hub.config ≡ config
  pub hears : (conn : ℕ) → HearsAt table config.max_message (phase meaning notes conn) (last_frame meaning notes conn) (heard conn notes) (s.net.given conn) (intakes conn).reader
  pub rests : (conn : ℕ) → reading ≢ Some conn → RestsAt table (phase meaning notes conn) (s.net.given conn) (intakes conn).reader
  pub routed : (conn : ℕ) → has_entry s.hub.entries conn ≡ true → IsRouted (intakes conn) ((world meaning notes).line conn)
