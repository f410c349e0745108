-- What a call of a hub does: the notes that it makes, what these make of each connection, and the items that it appends.
use Rattle.std.specs.Prelude.{◌≡◌, ℕ, List, ◌++◌, true}
use Rattle.std.specs.List.{list_all}
use Rattle.ws_kinds.specs.NoteValue.{NoteValue}
use Rattle.wire_meaning.specs.Answer.{Item}
use Rattle.hub_lines.specs.State.{Server}
use Rattle.hub_lines.specs.Calls.{Keeps, ShortRings}
use Rattle.ws_kinds.specs.Watch.{AreNoted}
use Rattle.run_meaning.specs.Performs.{is_outgoing}
use Rattle.run_meaning.specs.Steps.{Step, notes_of, appended_by}
use Rattle.hub_notes.specs.Progress.{progress_at, progress_after_all, may_all_come, progress_by_steps, may_all_step, standings_at}
use Rattle.hub_notes.specs.Tells.{TellsBy}
use Rattle.hub_notes.specs.Quiet.{CountsBeside}
use Rattle.hub_notes.specs.NetAfter.{NetAfter, FailsAfter}
use Rattle.hub_notes.specs.Fronts.{KeepsFronts, RingsWait}

-- The call makes these notes. Each may come of its connection, they make of each connection what it is afterwards, and the
-- net is left as they say.
pub record Advances (notes : List NoteValue) (old new : Server) : Type 0 where
  pub told : AreNoted old.told notes new.told
  pub may_come : (conn : ℕ) → may_all_come conn notes (progress_at old.hub conn) ≡ true
  pub progress : (conn : ℕ) → progress_at new.hub conn ≡ progress_after_all conn notes (progress_at old.hub conn)
  pub tells : TellsBy notes old.hub new.hub
  pub counts : CountsBeside notes old.hub new.hub
  pub net : NetAfter notes old.net new.net

-- The call makes the first notes, then notes of what became of octets that were to be sent, and then the last notes. A
-- connection is gone by a failed link exactly where a write of it failed.
pub record Proceeds (first last : List NoteValue) (old new : Server) : Type 0 where
  pub sending : List NoteValue
  pub outgoing : list_all is_outgoing sending ≡ true
  pub advances : Advances (first ++ (sending ++ last)) old new
  pub fails : FailsAfter (first ++ (sending ++ last)) old.net new.net

-- The call appends these items for each connection, at the end of its line.
pub record Appends (appended : ℕ → List Item) (old new : Server) : Type 0 where
  pub lines : Keeps appended old new
  -- of a connection that becomes gone, its link took a front of its line
  pub fronts : KeepsFronts appended old new
  -- where the watch tells, something is in a ring only after a write that took less than it was offered
  pub short : ShortRings old → ShortRings new
  -- and only while its link takes nothing
  pub waits : RingsWait old → RingsWait new

-- The call makes these steps: their notes are told, each may come, they make of each connection what it is afterwards and
-- append for it what they send, and the net is left as the notes say. `texts` are the replies to the request heads that are
-- admitted.
pub record Does (texts : ℕ → List ℕ) (steps : List Step) (old new : Server) : Type 0 where
  pub told : AreNoted old.told (notes_of steps) new.told
  pub may_come : (conn : ℕ) → may_all_step conn steps (progress_at old.hub conn) ≡ true
  pub progress : (conn : ℕ) → progress_at new.hub conn ≡ progress_by_steps conn steps (progress_at old.hub conn)
  pub tells : TellsBy (notes_of steps) old.hub new.hub
  pub counts : CountsBeside (notes_of steps) old.hub new.hub
  pub net : NetAfter (notes_of steps) old.net new.net
  pub fails : FailsAfter (notes_of steps) old.net new.net
  pub appends : Appends (appended_by texts steps (standings_at old.hub)) old new
