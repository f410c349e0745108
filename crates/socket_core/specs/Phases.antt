-- The steps of a connection from phase to phase.
use Rattle.std.specs.Prelude.{Bool, true, false, [], if◌then◌else◌}
use Rattle.ws_kinds.specs.declared.note.Phase.{Phase}
use Rattle.ws_kinds.specs.declared.note.Phase.TheVariants.{Head, Open, Leaving, Ending, Gone}
use Rattle.hub_lines.specs.State.{Entry, is_gone}

-- A request is accepted or refused; an open connection begins to leave, or ends at once; one that leaves ends; and in each
-- phase its link can be shut.
abbrev pub can_enter : Phase → Phase → Bool
can_enter _ Gone = true
can_enter Head Open = true
can_enter Head Ending = true
can_enter Open Leaving = true
can_enter Open Ending = true
can_enter Leaving Ending = true
can_enter _ _ = false

-- a connection goes on to a phase. What is held back for one that is gone is discarded
abbrev pub entered : Phase → Entry → Entry
entered phase entry = record entry { phase = phase; ring = if is_gone phase then [] else entry.ring }
