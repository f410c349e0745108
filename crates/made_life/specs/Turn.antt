-- A run of a made schedule: its first turn, and all of it.
use Rattle.std.specs.Prelude.{◌≡◌, ◌≢◌, ℕ, List, [], ◌∷◌, ◌++◌, Some, true, false, length}
use Rattle.ws_kinds.specs.ConfigValue.{usual_config}
use Rattle.ws_kinds.specs.EventValue.{EventValue}
use Rattle.ws_kinds.specs.NoteValue.{NoteValue}
use Rattle.ws_kinds.specs.declared.note.Left.TheVariants.{LinkFailed, PeerEnd}
use Rattle.link_trait.specs.declared.net.NetEvent.TheVariants as event
use Rattle.mem_net.specs.Acts.{credit_of, passes, sent}
use Rattle.mem_net.specs.MemNet.{FollowsSchedule, MemNetState, net_state}
use Rattle.bus_handler.specs.Bus.{bus_said, routes_of_bus}
use Rattle.made_schedule.specs.Made.{made_acts}
use Rattle.run_meaning.specs.Counts.{is_accepted, is_gone_by_in, number_of}
use Rattle.run_meaning.specs.Lines.{is_gone_phase, phase}
use Rattle.run_meaning.specs.Notes.{is_turn}
use Rattle.run_meaning.specs.Replies.{AreReplies}
use Rattle.run_meaning.specs.Right.{Right}
use Rattle.run_meaning.specs.Server.{Server}
use Rattle.run_meaning.specs.Settled.{Settled, is_reading}

-- with these texts of replies a turn was right, and all is settled after it
pub record EndsRight {State : Type 0} (server : Server State) (now : State) (notes : List NoteValue) (net : MemNetState) (held : ℕ → List ℕ) : Type 0 where
  pub right : Right server usual_config routes_of_bus notes (net_state net) now held
  pub settled : Settled server notes (net_state net) (record { pending = 0; gathered = []; backlog = held })

-- A run of the schedule of a seed has these notes and gave these octets; in its first turn it had the notes `before`, and the net was so.
-- `server` is what notes are read with, for each choice of texts of replies.
pub record FirstTurn {State : Type 0} (server : (ℕ → List ℕ) → Server State) (now : State) (seed : ℕ) (notes : List NoteValue) (given : ℕ → List ℕ) : Type 0 where
  pub before : List NoteValue
  pub later : List NoteValue
  pub split : notes ≡ before ++ later
  pub net : MemNetState
  pub follows : FollowsSchedule net
  pub acts_are : net.acts ≡ made_acts seed
  pub one : number_of is_turn before ≡ 1
  pub grew : (conn : ℕ) → (behind : List ℕ) × (given conn ≡ (net_state net).given conn ++ behind)
  pub held : ℕ → List ℕ
  pub right : (replies : ℕ → List ℕ) → AreReplies routes_of_bus before (net_state net).given replies → EndsRight (server replies) now before net held

-- All acts of the schedule of a seed were done: the run of the built-in handler has these notes, with these texts of replies, and the net
-- and what is held for each connection are so.
pub record RunsMade {State : Type 0} (server : Server State) (now : State) (seed : ℕ) (notes : List NoteValue) (net : MemNetState) (held : ℕ → List ℕ) : Type 0 where
  pub says : (state : State) (event : EventValue) → server.said state event ≡ bus_said event
  pub ends : EndsRight server now notes net held
  pub follows : FollowsSchedule net
  pub acts_are : net.acts ≡ made_acts seed
  pub used : net.done ≡ length net.acts
  pub passed : (net_state net).passed ≡ passes (made_acts seed) ++ event.Stop ∷ []
  -- a connection that is still read was given all of its octets
  pub given : (conn : ℕ) → is_reading (phase server notes conn) ≡ true → (net_state net).given conn ≡ sent conn (made_acts seed)
  -- no peer ended its stream, and no link failed
  pub unended : (conn : ℕ) → is_accepted conn notes ≡ true → is_gone_by_in conn PeerEnd notes ≡ false
  pub unfailed : (conn : ℕ) → is_accepted conn notes ≡ true → is_gone_by_in conn LinkFailed notes ≡ false
  -- while octets are held for a connection that is not gone, its link took all that the acts let it take
  pub short : (conn : ℕ) → is_accepted conn notes ≡ true → is_gone_phase (phase server notes conn) ≡ false → held conn ≢ [] → credit_of conn (made_acts seed) ≡ Some (length ((net_state net).taken conn))
