-- What each step of the loop keeps: the server is as its notes say, for all texts of replies that agree with the judging.
use Rattle.std.specs.Prelude.{◌≡◌, ◌<◌, ◌-◌, ◌^◌, ℕ, List, [], ◌∷◌, ◌++◌, Option, Some, Bool, true, nat_eq, length, if◌then◌else◌}
use Rattle.ws_kinds.specs.declared.handler.Handler.{Ghosts as HandlerMeaning}
use Rattle.ws_kinds.specs.ConfigValue.{ConfigValue}
use Rattle.ws_kinds.specs.NoteValue as note
use Rattle.ws_kinds.specs.NoteValue.{NoteValue}
use Rattle.ws_kinds.specs.EventValue.{EventValue}
use Rattle.ws_kinds.specs.OrderValue.{OrderValue}
use Rattle.route_table.specs.Table.{RouteTable}
use Rattle.frame_reader.specs.declared.reader.Reader.{Reader}
use Rattle.run_meaning.specs.Server as run
use Rattle.run_meaning.specs.Server.{served_by}
use Rattle.run_meaning.specs.Lines.{plain}
use Rattle.run_meaning.specs.Replies.{AreAdmitted, AreReplies, HasReplies}
use Rattle.run_meaning.specs.Settled.{BetweenTurns, IsTurn, Settled}
use Rattle.run_meaning.specs.Told.{AreTold}
use Rattle.run_meaning.specs.Life.{LivedThroughout}
use Rattle.run_meaning.specs.Right.{Right}
use Rattle.hub_lines.specs.State.{Server}
use Rattle.hub_notes.specs.Table.{IsTable, table_of}
use Rattle.run_laws.specs.Readers.{ReaderView, reader_view}
use Rattle.run_told.specs.Tellings.{IsTold}
use Rattle.run_ticks.specs.Counts.{IsTicked}
use Rattle.run_kept.specs.Sounds.{AreSound}
use Rattle.run_kept.specs.Kept.{IntakeView, Kept}
use Rattle.run_kept.specs.Ends.{backlog_at}
use Rattle.loop_runner.specs.declared.intakes.Intake.{Intake}
use Rattle.loop_runner.specs.declared.intakes.Intakes.{Intakes}
use Rattle.loop_runner.specs.Intakes.{intake_at}

-- ---- what stands beside the hub, as the laws see it

-- a reader that has this to tell, with the route and the parameter that its connection was opened with
abbrev pub view_by : ReaderView → ℕ → List ℕ → IntakeView
view_by reader route param = record { reader = reader; route = route; param = param }

abbrev pub view_of : Reader → ℕ → List ℕ → IntakeView
view_of reader route param = view_by (reader_view reader) route param

abbrev pub intake_view : Intake → IntakeView
intake_view intake = view_of intake.reader intake.route intake.param.items

-- what may stand for a connection that has no intake
abbrev pub no_view : IntakeView
no_view = view_by (record { ahead = λ _. []; raw = []; max = 0; unread = true }) 0 []

abbrev pub AreViews : Intakes → (ℕ → IntakeView) → Type 0
AreViews intakes views = (conn : ℕ) (intake : Intake) → intake_at intakes conn ≡ Some intake → views conn ≡ intake_view intake

-- these views, with another one of a connection
abbrev pub with_view : ℕ → IntakeView → (ℕ → IntakeView) → ℕ → IntakeView
with_view conn view views other = if nat_eq other conn then view else views other

-- ---- what is kept

-- what a server began with: the handler's first state and its meaning, the topics that may be subscribed to, the configuration and
-- the routes
pub record Beginning (State : Type 0) : Type 0 where
  pub start : State
  pub after : State → EventValue → State
  pub said : State → EventValue → List OrderValue
  pub admits : List ℕ → Bool
  pub config : ConfigValue
  pub table : RouteTable

abbrev pub beginning : {H : Type 0} → (handler : HandlerMeaning H) → (List ℕ → Bool) → handler.State → ConfigValue → RouteTable → Beginning handler.State
beginning handler admits start config table = record { start = start; after = handler.after; said = handler.said; admits = admits; config = config; table = table }

-- what its notes are read with, for these texts of replies
abbrev pub meaning_of : {State : Type 0} → Beginning State → (ℕ → List ℕ) → run.Server State
meaning_of b replies = served_by b.start b.after b.said b.admits replies

-- what holds for one meaning: it is kept, each note is sound, the hub's table is one, and what the handler was told is right, and who
-- was pinged and ended by ticks
pub record Holds {State : Type 0} (b : Beginning State) (replies : ℕ → List ℕ) (notes : List NoteValue) (s : Server) (now : State) (views : ℕ → IntakeView) (reading : Option ℕ) : Type 0 where
  pub kept : Kept (meaning_of b replies) b.config b.table notes s now views reading
  pub sound : AreSound (meaning_of b replies) b.config notes
  pub whole : IsTable (table_of s.hub)
  pub told : IsTold (meaning_of b replies) notes s.hub
  pub ticked : IsTicked (meaning_of b replies) notes s.hub

-- at no time has a connection as many items as can be counted
abbrev pub AreFew : {State : Type 0} → run.Server State → List NoteValue → Type 0
AreFew meaning notes = (front behind : List NoteValue) → notes ≡ front ++ behind → (conn : ℕ) → length (plain meaning front conn) < 2 ^ 64 - 1

-- where net and watch tell, and where items are few: this holds for all texts of replies that agree with the judging
abbrev pub ForReplies : {State : Type 0} → Beginning State → Server → ((ℕ → List ℕ) → List NoteValue → Type 0) → Type 0
ForReplies b s P = (notes : List NoteValue) → s.told ≡ Some notes → s.net.tells ≡ true → (replies : ℕ → List ℕ) → AreReplies b.table notes s.net.given replies
    → AreFew (meaning_of b replies) notes → P replies notes

-- where net and watch tell, and where items are few with whatever texts: this holds of the notes
abbrev pub ForNotes : {State : Type 0} → Beginning State → Server → (List NoteValue → Type 0) → Type 0
ForNotes b s P = (notes : List NoteValue) → s.told ≡ Some notes → s.net.tells ≡ true → ((replies : ℕ → List ℕ) → AreFew (meaning_of b replies) notes) → P notes

-- of the connection that is being read, if there is one, more may be told
pub record KeptAll {State : Type 0} (b : Beginning State) (s : Server) (now : State) (views : ℕ → IntakeView) (reading : Option ℕ) : Type 0 where
  -- so there are texts that agree with the judging
  pub admitted : ForNotes b s (λ notes. AreAdmitted b.table notes s.net.given)
  pub holds : ForReplies b s (λ replies notes. Holds b replies notes s now views reading)

-- After a turn: the run is right, with what is held for the connections that are not gone.
pub record IsRight {State : Type 0} (b : Beginning State) (s : Server) (now : State) : Type 0 where
  -- there are texts that agree with the judging
  pub texts : ForNotes b s (λ notes. HasReplies b.table notes s.net.given)
  -- and for all such texts the relation holds
  pub right : ForReplies b s (λ replies notes. Right (meaning_of b replies) b.config b.table notes s.net now (backlog_at s.hub))

-- The same of what is settled after a turn: no frame waits, and what is held is what the links of those who are not gone did not
-- take.
abbrev pub IsSettled : {State : Type 0} → Beginning State → Server → Type 0
IsSettled b s = ForReplies b s (λ replies notes. Settled (meaning_of b replies) notes s.net (record { pending = 0; gathered = []; backlog = backlog_at s.hub }))

-- in the last turn the handler was told of each connection that had something to tell as it began, and is open after it
abbrev pub IsToldNow : {State : Type 0} → run.Server State → List NoteValue → Type 0
IsToldNow meaning notes = (before made : List NoteValue) → notes ≡ before ++ made → IsTurn before made → AreTold meaning before made

-- all is settled where that is so
abbrev pub IsSettledIfTold : {State : Type 0} → Beginning State → Server → Type 0
IsSettledIfTold b s = ForReplies b s (λ replies notes. IsToldNow (meaning_of b replies) notes
    → Settled (meaning_of b replies) notes s.net (record { pending = 0; gathered = []; backlog = backlog_at s.hub }))

-- where the watch tells, it told nothing yet, or that a turn ended last
abbrev pub IsBetweenTurns : Option (List NoteValue) → Type 0
IsBetweenTurns told = (notes : List NoteValue) → told ≡ Some notes → BetweenTurns notes

-- At the end of each turn so far, what was heard of each connection is what the octets say that were read until then.
abbrev pub IsLivedThroughout : {State : Type 0} → Beginning State → Server → Type 0
IsLivedThroughout b s = ForReplies b s (λ replies notes. LivedThroughout (meaning_of b replies) b.table b.config.max_message notes s.net.given)

-- where the watch tells, its last note says that a turn ended
abbrev pub EndsWithTurn : Option (List NoteValue) → Type 0
EndsWithTurn told = (notes : List NoteValue) → told ≡ Some notes → (front : List NoteValue) × (notes ≡ front ++ note.turn ∷ [])
