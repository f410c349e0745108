-- What is seen of a loop between two calls, and what each step keeps of it.
use Rattle.std.specs.Prelude.{◌≡◌, ◌<◌, ◌≤◌, ◌-◌, ◌^◌, ℕ, List, ◌∷◌, [], Option, Some, None, Bool, true, length, IfNone, IfSome}
use Rattle.ws_kinds.specs.declared.conn.Conn.{Conn}
use Rattle.ws_kinds.specs.ConfigValue.{ConfigValue}
use Rattle.ws_kinds.specs.EventValue.{EventValue}
use Rattle.ws_kinds.specs.OrderValue.{OrderValue}
use Rattle.ws_kinds.specs.NoteValue as note
use Rattle.ws_kinds.specs.NoteValue.{NoteValue}
use Rattle.ws_kinds.specs.Watch.{IsNoted}
use Rattle.ws_kinds.specs.declared.handler.Handler.{Ghosts as HandlerMeaning}
use Rattle.ws_kinds.specs.declared.watch.Watch.{Ghosts as WatchMeaning}
use Rattle.wire_meaning.specs.Answer.{reply as replied}
use Rattle.link_trait.specs.declared.net.Net.{Ghosts as NetMeaning}
use Rattle.link_trait.specs.declared.net.NetEvent.{NetEvent}
use Rattle.link_trait.specs.declared.net.Outside.{Outside}
use Rattle.link_trait.specs.NetState.{NetState}
use Rattle.link_trait.specs.Net.{Nexts}
use Rattle.route_table.specs.Table.{RouteTable}
use Rattle.hub_lines.specs.State.{HubState, PartingValue, Server, server}
use Rattle.hub_lines.specs.Calls.{nothing, only}
use Rattle.hub_notes.specs.Calls.{Proceeds, Appends}
use Rattle.hub_notes.specs.Serving.{ServesAll}
use Rattle.hub_notes.specs.NextTold.{NoneToTell, TakesTold}
use Rattle.hub_notes.specs.Table.{IsTable, TakesDue, table_of}
use Rattle.hub_core.specs.At.{at}
use Rattle.run_told.specs.Pass.{TellsTo}
use Rattle.run_kept.specs.Kept.{IntakeView}
use Rattle.run_kept.specs.Ends.{AreThere}
use Rattle.loop_runner.specs.declared.intakes.Intakes.{Intakes}
use Rattle.loop_runner.specs.Intakes.{is_admitted}
use Rattle.loop_runner.specs.Keeps.{Beginning, beginning, KeptAll, IsSettledIfTold, AreViews, with_view}
use Rattle.loop_runner.specs.Steps.{Every, Onward, Steps, Running}

-- a server, with the handler's state
pub record Moment {H : Type 0} (handler : HandlerMeaning H) : Type 0 where
  pub server : Server
  pub now : handler.State

-- by the meanings of the net, the watch and the handler
abbrev pub moment : {N W H : Type 0} → NetMeaning N → WatchMeaning W → (handler : HandlerMeaning H) → HubState → Outside N W → H → Moment handler
moment net watch handler hub out it = record { server = at net watch hub out; now = handler.state it }

-- the same with another net, or another hub: before it answered, or before it handed a Closed event out
abbrev pub with_net : {H : Type 0} {handler : HandlerMeaning H} → NetState → Moment handler → Moment handler
with_net net m = record { server = server m.server.hub net m.server.told; now = m.now }

abbrev pub with_hub : {H : Type 0} {handler : HandlerMeaning H} → HubState → Moment handler → Moment handler
with_hub hub m = record { server = server hub m.server.net m.server.told; now = m.now }

-- ---- events

-- the orders of this connection's event were served, where these topics may be subscribed to
abbrev pub ServesOrders : (List ℕ → Bool) → ℕ → List OrderValue → Server → Server → Type 0
ServesOrders admits conn orders old new = ServesAll old.hub.config admits conn 0 orders old new

-- An event was noted, and given to the handler: the orders that answer it were served.
pub record Gives {H : Type 0} {handler : HandlerMeaning H} (admits : List ℕ → Bool) (first : NoteValue) (given : EventValue) (old new : Moment handler) : Type 0 where
  pub told : Option (List NoteValue)
  pub noted : IsNoted old.server.told first told
  pub state : new.now ≡ handler.after old.now given
  pub served : ServesOrders admits given.conn (handler.said new.now given) (server old.server.hub old.server.net told) new.server

-- A connection is open, with the route and the parameter of this event, and this reply was put. Then the event was given to the
-- handler.
pub record Opens {H : Type 0} {handler : HandlerMeaning H} (admits : List ℕ → Bool) (reply : List ℕ) (given : EventValue) (old new : Moment handler) : Type 0 where
  pub between : Server
  pub proceeds : Proceeds (note.opened given.conn given.route given.param ∷ []) [] old.server between
  pub appends : Appends (only given.conn (replied reply)) old.server between
  pub state : new.now ≡ handler.after old.now given
  pub served : ServesOrders admits given.conn (handler.said new.now given) between new.server

-- ---- what is kept

-- It is kept afterwards, for some views of the intakes.
abbrev pub IsKeptThen : {H : Type 0} {handler : HandlerMeaning H} → Intakes → Moment handler → Beginning handler.State → Type 0
IsKeptThen intakes m b = (later : ℕ → IntakeView) × AreViews intakes later × KeptAll b m.server m.now later None

-- What was kept is kept, for each beginning where these topics may be subscribed to, with these routes.
abbrev pub Keeps : {H : Type 0} {handler : HandlerMeaning H} → (List ℕ → Bool) → RouteTable → Intakes → Intakes → Moment handler → Moment handler → Type 0
Keeps {H} {handler} admits table before after old new = (start : handler.State) (config : ConfigValue) (views : ℕ → IntakeView) → AreViews before views
    → KeptAll (beginning handler admits start config table) old.server old.now views None → IsKeptThen after new (beginning handler admits start config table)

-- So it is from before the net gave this answer on, where fewer answers were counted than can be.
abbrev pub KeepsNext : {H : Type 0} {handler : HandlerMeaning H} → NetEvent → (List ℕ → Bool) → RouteTable → Intakes → Intakes → Moment handler → Moment handler → Type 0
KeepsNext answer admits table before after old new = (net : NetState) → Nexts answer net old.server.net → length net.passed < 2 ^ 64 - 1 → Keeps admits table before after (with_net net old) new

-- And then all is settled, where each live link was that of an entry which is not gone, and the handler was told what it was owed.
abbrev pub SettlesNext : {H : Type 0} {handler : HandlerMeaning H} → NetEvent → (List ℕ → Bool) → RouteTable → Intakes → Moment handler → Moment handler → Type 0
SettlesNext {H} {handler} answer admits table before old new = (net : NetState) → Nexts answer net old.server.net → length net.passed < 2 ^ 64 - 1
    → (start : handler.State) (config : ConfigValue) (views : ℕ → IntakeView) → AreViews before views
    → KeptAll (beginning handler admits start config table) (with_net net old).server old.now views None → AreThere (with_net net old).server
    → IsSettledIfTold (beginning handler admits start config table) new.server

-- What one connection's reader has to tell becomes this: what was kept with the old view of it is kept with the new one. `from`
-- and `to` are the connection where more of it may be told, before and after.
pub record KeepsOne {State : Type 0} (b : Beginning State) (conn : ℕ) (from to : Option ℕ) (before after : IntakeView) (old : Server) (now : State) (new : Server) (next : State) : Type 0 where
  pub kept : (views : ℕ → IntakeView) → views conn ≡ before → KeptAll b old now views from → KeptAll b new next (with_view conn after views) to

abbrev pub KeepsView : {H : Type 0} {handler : HandlerMeaning H} → (List ℕ → Bool) → RouteTable → ℕ → Option ℕ → Option ℕ → IntakeView → IntakeView → Moment handler → Moment handler → Type 0
KeepsView {H} {handler} admits table conn from to before after old new = (start : handler.State) (config : ConfigValue)
    → KeepsOne (beginning handler admits start config table) conn from to before after old.server old.now new.server new.now

-- what is kept by each step within a turn that takes no connection in
pub record KeepsOn {H : Type 0} {handler : HandlerMeaning H} (admits : List ℕ → Bool) (before after : Intakes) (old new : Moment handler) : Type 0 where
  pub running : Running Every after new.server
  pub steps : Steps Every old.server new.server
  pub kept : (table : RouteTable) → Keeps admits table before after old new

-- A connection came, as the net answered: it was taken in, or turned away.
pub record TakesIn {H : Type 0} {handler : HandlerMeaning H} (answer : NetEvent) (before after : Intakes) (old new : Moment handler) : Type 0 where
  pub running : Running Every after new.server
  pub onward : Onward 0 0 old.server new.server
  pub there : (net : NetState) → Nexts answer net old.server.net → AreThere (with_net net old).server → AreThere new.server
  pub kept : (admits : List ℕ → Bool) (table : RouteTable) → KeepsNext answer admits table before after old new

-- What there is to tell of a connection that has an intake was handed out, by this hub.
pub record HandsTold (after conn dropped : ℕ) (drained : Bool) (intakes : Intakes) (hub : HubState) (s : Server) : Type 0 where
  pub takes : TakesTold after conn dropped drained hub s.hub
  pub appends : Appends nothing (server hub s.net s.told) s
  pub table : IsTable (table_of hub)
  pub tables : IsTable (table_of s.hub)
  pub named : s.hub.named ≡ hub.named
  pub admitted : is_admitted intakes conn ≡ true

-- The handler was told of a connection. Of those above a number who had something to tell, those above the connection are left.
pub record TellsOne {H : Type 0} {handler : HandlerMeaning H} (admits : List ℕ → Bool) (after conn : ℕ) (intakes : Intakes) (old new : Moment handler) : Type 0 where
  pub steps : Steps Every old.server new.server
  pub kept : (table : RouteTable) → Keeps admits table intakes intakes old new
  pub told : (start : Server) → TellsTo after start old.server → TellsTo conn start new.server

-- The handler was told of the next connection above a number, if there is one, and else nothing changes.
pub record TellsOn {H : Type 0} {handler : HandlerMeaning H} (admits : List ℕ → Bool) (after : ℕ) (next : Option Conn) (intakes : Intakes) (old new : Moment handler) : Type 0 where
  pub some : IfSome next (λ conn. (after < conn.0) × (conn.0 ≤ new.server.hub.named) × TellsOne admits after conn.0 intakes old new)
  pub none : IfNone next ((new ≡ old) × NoneToTell after old.server.hub)

-- The Closed event of a connection that has an intake was handed out, by this hub.
pub record HandsOut (parting : PartingValue) (intakes : Intakes) (hub : HubState) (s : Server) : Type 0 where
  pub taken : TakesDue (Some parting) (table_of hub) (table_of s.hub)
  pub pairs : s.hub.pairs ≡ hub.pairs
  pub tellings : s.hub.tellings ≡ hub.tellings
  pub appends : Appends nothing (server hub s.net s.told) s
  pub admitted : is_admitted intakes parting.conn ≡ true
