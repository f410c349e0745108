-- How far each connection of a hub is, and what the notes of a call make of that.
use Rattle.std.specs.Prelude.{ℕ, List, [], ◌∷◌, Bool, true, false, ◌&&◌, Option, Some, None, nat_eq, if◌then◌else◌}
use Rattle.ws_kinds.specs.declared.note.Left.{Left}
use Rattle.ws_kinds.specs.declared.note.Left.TheVariants.{Finished}
use Rattle.ws_kinds.specs.declared.note.Phase.{Phase}
use Rattle.ws_kinds.specs.declared.note.Phase.TheVariants.{Head, Open, Leaving, Ending}
use Rattle.ws_kinds.specs.NoteValue as note
use Rattle.ws_kinds.specs.NoteValue.{NoteValue}
use Rattle.ws_kinds.specs.OrderValue.{OrderValue, subscribe, unsubscribe, close}
use Rattle.hub_lines.specs.State.{HubState, PartingValue, entry_at}
use Rattle.run_meaning.specs.Notes.{is_of}
use Rattle.ws_kinds.specs.Topics.{topics_of, with_topic, without_topic}
use Rattle.run_meaning.specs.Lines.{moved, closing, leaves_open, topics_left, is_open, cause_of}
use Rattle.run_meaning.specs.Orders.{Standing, unless_gone}
use Rattle.run_meaning.specs.Steps.{Step, by_note, by_order, is_for}

-- how far a connection is
pub record Progress : Type 0 where
  -- its phase; None where there is no such connection, or where it is gone
  pub phase : Option Phase
  -- the topics that it subscribed to, in the order of its subscribing
  pub topics : List (List ℕ)
  -- the code and the reason of its Closed event, where that is due
  pub due : Option (ℕ × List ℕ)

-- the code and the reason of the connection's Closed event, where that is due
abbrev pub due_of : List PartingValue → ℕ → Option (ℕ × List ℕ)
due_of [] conn = None
due_of (first ∷ rest) conn = if nat_eq first.conn conn then Some (first.code, first.reason) else due_of rest conn

abbrev pub due_at : HubState → ℕ → Option (ℕ × List ℕ)
due_at hub conn = due_of hub.partings conn

abbrev pub topics_at : HubState → ℕ → List (List ℕ)
topics_at hub conn = topics_of hub.pairs conn

abbrev pub progress_at : HubState → ℕ → Progress
progress_at hub conn = record { phase = unless_gone (Some (entry_at hub conn).phase); topics = topics_at hub conn; due = due_at hub conn }

-- what an order depends on
abbrev pub standing_in : Progress → Standing
standing_in progress = record { phase = progress.phase; topics = progress.topics }

abbrev pub standings_at : HubState → ℕ → Standing
standings_at hub conn = standing_in (progress_at hub conn)

-- a connection after a note of its own: its phase moves, and where it leaves Open, its topics end and its Closed event is due
abbrev pub progress_by : NoteValue → Progress → Progress
progress_by this progress = record {
  phase = unless_gone (moved progress.phase this);
  topics = topics_left progress.phase (moved progress.phase this) progress.topics;
  due = if leaves_open progress.phase (moved progress.phase this) then Some (cause_of this) else progress.due;
}

-- a connection after any note, and after notes
abbrev pub progress_after : ℕ → NoteValue → Progress → Progress
progress_after conn this progress = if is_of conn this then progress_by this progress else progress

abbrev pub progress_after_all : ℕ → List NoteValue → Progress → Progress
progress_after_all conn [] progress = progress
progress_after_all conn (first ∷ rest) progress = progress_after_all conn rest (progress_after conn first progress)

-- a connection is gone as finished only while it is ending
abbrev pub may_leave_by : Option Phase → Left → Bool
may_leave_by None left = false
may_leave_by (Some Ending) left = true
may_leave_by (Some phase) Finished = false
may_leave_by (Some phase) left = true

-- the notes that may come of a connection in this phase; None stands for one that is not accepted or is gone
abbrev pub may_come : Option Phase → NoteValue → Bool
may_come None (note.accepted conn) = true
may_come None (note.busy conn) = true
may_come None (note.no_room conn) = true
may_come _ (note.unserved conn order why) = true
may_come _ (note.closed conn code reason) = true
may_come (Some Head) (note.given conn count) = true
may_come (Some Open) (note.given conn count) = true
may_come (Some Leaving) (note.given conn count) = true
may_come (Some Head) (note.head conn status) = true
may_come (Some Head) (note.opened conn route param) = true
may_come (Some Open) (note.message conn kind body) = true
may_come (Some Open) (note.ping_got conn body) = true
may_come (Some Open) (note.pong_got conn body) = true
may_come (Some Open) (note.pinged conn) = true
may_come (Some Open) (note.told conn dropped drained) = true
may_come (Some Open) (note.peer_close conn code reason) = true
may_come (Some Leaving) (note.peer_close conn code reason) = true
may_come (Some Open) (note.failed conn code) = true
may_come (Some Leaving) (note.failed conn code) = true
may_come (Some phase) (note.took conn offered took) = true
may_come (Some phase) (note.dropped conn index held) = true
may_come phase (note.gone conn left) = may_leave_by phase left
may_come _ _ = false

-- each of these notes may come of the connection, one after another
abbrev pub may_all_come : ℕ → List NoteValue → Progress → Bool
may_all_come conn [] progress = true
may_all_come conn (first ∷ rest) progress = (if is_of conn first then may_come progress.phase first else true) && may_all_come conn rest (progress_after conn first progress)

-- ---- steps

-- a connection after an order of connection `from` was served
abbrev pub progress_obeys : ℕ → ℕ → OrderValue → Progress → Progress
progress_obeys from conn (subscribe topic) progress =
    if nat_eq from conn then record { phase = progress.phase; topics = with_topic topic progress.topics; due = progress.due } else progress
progress_obeys from conn (unsubscribe topic) progress =
    if nat_eq from conn then record { phase = progress.phase; topics = without_topic topic progress.topics; due = progress.due } else progress
progress_obeys from conn (close code reason) progress = if nat_eq from conn then record {
  phase = closing progress.phase;
  topics = topics_left progress.phase (closing progress.phase) progress.topics;
  due = if leaves_open progress.phase (closing progress.phase) then Some (code, reason) else progress.due;
} else progress
progress_obeys from conn _ progress = progress

-- a connection after a step, and after steps
abbrev pub progress_by_step : ℕ → Step → Progress → Progress
progress_by_step conn (by_note this) progress = progress_after conn this progress
progress_by_step conn (by_order from order) progress = progress_obeys from conn order progress

abbrev pub progress_by_steps : ℕ → List Step → Progress → Progress
progress_by_steps conn [] progress = progress
progress_by_steps conn (first ∷ rest) progress = progress_by_steps conn rest (progress_by_step conn first progress)

-- the step may come where the connection is so far: a note by its phase, and an order only if each that it is for is open
abbrev pub may_step : ℕ → Step → Progress → Bool
may_step conn (by_note this) progress = if is_of conn this then may_come progress.phase this else true
may_step conn (by_order from order) progress = if is_for from conn order progress.topics then is_open progress.phase else true

abbrev pub may_all_step : ℕ → List Step → Progress → Bool
may_all_step conn [] progress = true
may_all_step conn (first ∷ rest) progress = may_step conn first progress && may_all_step conn rest (progress_by_step conn first progress)
