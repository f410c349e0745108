-- What comes of a schedule that was run over a net in memory, with the built-in handler.
use Rattle.std.specs.Prelude.{◌≡◌, ◌≢◌, ◌<◌, ◌+◌, Some, ◌-◌, ◌^◌, ℕ, List, [], ◌∷◌, ◌++◌, Bool, true, false, nat_eq, length, map, if◌then◌else◌}
use Rattle.std.specs.List.{list_any, flat_map, AllByRecursion}
use Rattle.ws_kinds.specs.ConfigValue.{ConfigValue}
use Rattle.ws_kinds.specs.NoteValue.{NoteValue}
use Rattle.ws_kinds.specs.Ranges.{AreNotes}
use Rattle.ws_kinds.specs.declared.note.Left.TheVariants.{PeerEnd, LinkFailed}
use Rattle.link_trait.specs.declared.act.Act.{Act}
use Rattle.link_trait.specs.declared.act.Act.TheVariants as act
use Rattle.link_trait.specs.declared.net.NetEvent.{NetEvent}
use Rattle.link_trait.specs.declared.net.NetEvent.TheVariants as event
use Rattle.mem_net.specs.Acts.{sent, passes, credit_of}
use Rattle.mem_net.specs.Schedule.{is_ending}
use Rattle.link_trait.specs.NetState.{NetState}
use Rattle.mem_net.specs.MemNet.{MemNetState, FollowsSchedule, net_state}
use Rattle.route_table.specs.Table.{RouteTable}
use Rattle.run_meaning.specs.Counts.{gather, accepted_by, is_accepted, is_gone_by_in}
use Rattle.run_meaning.specs.Lines.{is_gone_phase, phase, plain}
use Rattle.run_meaning.specs.Server.{Server}
use Rattle.hub_lines.specs.State.{HubState, is_present, numbered_at}
use Rattle.run_meaning.specs.Settled.{Settled, is_reading}
use Rattle.run_meaning.specs.Right.{Right}
use Rattle.run_meaning.specs.Replies.{AreReplies, HasReplies}
use Rattle.run_meaning.specs.Life.{LivedThroughout}
use Rattle.schedule_text.specs.Report.{Link, link_line, report, IsLink}
use Rattle.ws_program.specs.BusServer.{bus_server}

-- the peer of the connection ends its stream by this act
abbrev pub is_end_of : ℕ → Act → Bool
is_end_of conn (act.End other) = nat_eq other.0 conn
is_end_of conn _ = false

-- reads or writes of the connection fail from this act on
abbrev pub is_fault_of : ℕ → Act → Bool
is_fault_of conn (act.ReadFails other) = nat_eq other.0 conn
is_fault_of conn (act.WriteFails other) = nat_eq other.0 conn
is_fault_of conn _ = false

-- nothing more comes
abbrev pub is_stop : NetEvent → Bool
is_stop event.Stop = true
is_stop _ = false

-- an act that ends a turn
abbrev pub is_turn_act : Act → Bool
is_turn_act act.Turn = true
is_turn_act _ = false

-- A net follows its schedule, whose acts can be counted; at an earlier moment, when it was in the other state, it had told nothing.
pub record IsNew (net : MemNetState) (old : NetState) : Type 0 where
  pub follows : FollowsSchedule net
  pub few : length net.acts + 1 < 2 ^ 64 - 1
  pub tells : old.tells ≡ true
  pub none : old.passed ≡ []

-- The notes, the net and what is held for each connection, with these texts of replies: all acts were done, the run is right, and
-- all is settled.
pub record IsReplayed (admits : List ℕ → Bool) (config : ConfigValue) (table : RouteTable) (acts : List Act) (notes : List NoteValue) (net : NetState) (held : ℕ → List ℕ) (replies : ℕ → List ℕ) : Type 0 where
  pub right : Right (bus_server admits replies) config table notes net tt held
  pub settled : Settled (bus_server admits replies) notes net (record { pending = 0; gathered = []; backlog = held })
  -- at the end of each turn, what was heard of each connection is what the octets say that were given until then
  pub throughout : LivedThroughout (bus_server admits replies) table config.max_message notes net.given
  -- a connection that is still read was given all of its octets, and no act ends them
  pub given : (conn : ℕ) → is_reading (phase (bus_server admits replies) notes conn) ≡ true → net.given conn ≡ sent conn acts
  pub unended : (conn : ℕ) → is_reading (phase (bus_server admits replies) notes conn) ≡ true → list_any (is_ending conn) acts ≡ false
  -- a connection is gone by the peer's end only where an act says so and all of its octets were given, and by a failed link only
  -- where an act says so
  pub ended : (conn : ℕ) → is_accepted conn notes ≡ true → is_gone_by_in conn PeerEnd notes ≡ true → (list_any (is_end_of conn) acts ≡ true) × (net.given conn ≡ sent conn acts)
  pub failed : (conn : ℕ) → is_accepted conn notes ≡ true → is_gone_by_in conn LinkFailed notes ≡ true → list_any (is_fault_of conn) acts ≡ true
  -- while octets are held for a connection that is not gone, its link took exactly its credit and all room that it got
  pub short : (conn : ℕ) → is_accepted conn notes ≡ true → is_gone_phase (phase (bus_server admits replies) notes conn) ≡ false → held conn ≢ [] → credit_of conn acts ≡ Some (length (net.taken conn))

-- the links of the connections that were accepted, in order: how many octets are held, and those that were taken
abbrev pub links_of : (ℕ → List ℕ) → (ℕ → List ℕ) → List NoteValue → List Link
links_of held taken notes = map (λ conn. record { conn = conn; held = length (held conn); octets = taken conn }) (gather accepted_by notes)

-- the links of a report are in the ranges of their lines
abbrev pub AreLinks : List Link → Type 0
AreLinks links = AllByRecursion IsLink links

-- the lines of links
abbrev pub all_link_lines : List Link → List ℕ
all_link_lines links = flat_map (λ link. link_line link.conn link.held link.octets) links

-- The notes, the net in memory and what is held for each connection are those of a run of these acts: all acts were done, and then
-- nothing more came.
pub record IsRunOf (admits : List ℕ → Bool) (config : ConfigValue) (table : RouteTable) (acts : List Act) (notes : List NoteValue) (net : MemNetState) (held : ℕ → List ℕ) : Type 0 where
  -- its numbers are in the ranges of their lines, so that a report's text tells the notes and the links
  pub notes_in_range : AreNotes notes
  pub links_in_range : AreLinks (links_of held (net_state net).taken notes)
  pub acts_are : net.acts ≡ acts
  -- no write failed but by an act
  pub whole : net.whole ≡ true
  pub follows : FollowsSchedule net
  pub used : net.done ≡ length acts
  pub passed : (net_state net).passed ≡ passes acts ++ event.Stop ∷ []
  -- there are texts of replies that agree with the judging, and for all of them the run is as it should be
  pub texts : HasReplies table notes (net_state net).given
  pub run : (replies : ℕ → List ℕ) → AreReplies table notes (net_state net).given replies → IsReplayed admits config table acts notes (net_state net) held replies

-- these octets are the report of a run of these acts, over a net in memory
pub record IsReport (admits : List ℕ → Bool) (config : ConfigValue) (table : RouteTable) (acts : List Act) (octets : List ℕ) : Type 0 where
  pub notes : List NoteValue
  pub net : MemNetState
  pub held : ℕ → List ℕ
  pub text : octets ≡ report notes (links_of held (net_state net).taken notes)
  pub tells : IsRunOf admits config table acts notes net held

-- how many items were put for a connection that is not gone
abbrev pub count_at : HubState → ℕ → ℕ
count_at hub conn = if is_present hub conn then numbered_at hub conn else 0

-- how many items a connection that is not gone is sent where each is sent singly and at once, by the notes
abbrev pub items_there : {State : Type 0} → Server State → List NoteValue → ℕ → ℕ
items_there server notes conn = if is_gone_phase (phase server notes conn) then 0 else length (plain server notes conn)

-- the hub counted the items of each connection that was accepted
abbrev pub CountsItems : {State : Type 0} → Server State → List NoteValue → HubState → Type 0
CountsItems server notes hub = (conn : ℕ) → is_accepted conn notes ≡ true → count_at hub conn ≡ items_there server notes conn
