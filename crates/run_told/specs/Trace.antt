-- What the handler is told of a connection, read from the last note back.
use Rattle.std.specs.Prelude.{ℕ, ◌+◌, List, [], ◌∷◌, ◌++◌, Bool, true, false, ◌||◌, nat_eq, nat_lt, if◌then◌else◌}
use Rattle.ws_kinds.specs.NoteValue as note
use Rattle.ws_kinds.specs.NoteValue.{NoteValue}
use Rattle.run_meaning.specs.Server.{Server}
use Rattle.run_meaning.specs.Told.{held_after}

-- what counts of a connection
pub data Trace : Type 0 where
  -- a turn ended, and so many octets were held
  turn_with : (held : ℕ) → Trace
  -- an item was dropped
  drop : Trace
  -- it was opened, or the handler was told of it
  mark : Trace

-- with one more note, before which so many octets were held; the last one comes first. Of one that is gone nothing counts.
abbrev pub traced : ℕ → ℕ → NoteValue → List Trace → List Trace
traced conn held note.turn trace = turn_with held ∷ trace
traced conn held (note.opened other route param) trace = if nat_eq other conn then mark ∷ trace else trace
traced conn held (note.told other dropped drained) trace = if nat_eq other conn then mark ∷ trace else trace
traced conn held (note.dropped other index holds) trace = if nat_eq other conn then drop ∷ trace else trace
traced conn held (note.gone other left) trace = if nat_eq other conn then [] else trace
traced conn held _ trace = trace

-- how many items were dropped since the last mark
abbrev pub drops_back : List Trace → ℕ
drops_back [] = 0
drops_back (mark ∷ trace) = 0
drops_back (drop ∷ trace) = drops_back trace + 1
drops_back (turn_with held ∷ trace) = drops_back trace

-- nothing was held as the last turn ended
abbrev pub is_empty_back : List Trace → Bool
is_empty_back [] = false
is_empty_back (turn_with held ∷ trace) = nat_eq held 0
is_empty_back (first ∷ trace) = is_empty_back trace

-- From the last end of a turn back: octets were held as a turn ended, or an item was dropped. It is read no further than to the
-- first end of a turn that stands before the last mark; `is_behind` says that this mark was read already.
abbrev pub was_held_from : Bool → List Trace → Bool
was_held_from is_behind [] = false
was_held_from is_behind (drop ∷ trace) = true
was_held_from is_behind (mark ∷ trace) = was_held_from true trace
was_held_from true (turn_with held ∷ trace) = nat_lt 0 held
was_held_from false (turn_with held ∷ trace) = nat_lt 0 held || was_held_from false trace

-- the same from the last note back: what stands behind the last end of a turn does not count for it, but that it was the mark
abbrev pub was_held_back : Bool → List Trace → Bool
was_held_back is_behind [] = false
was_held_back is_behind (drop ∷ trace) = was_held_back is_behind trace
was_held_back is_behind (mark ∷ trace) = was_held_back true trace
was_held_back true (turn_with held ∷ trace) = nat_lt 0 held
was_held_back false (turn_with held ∷ trace) = nat_lt 0 held || was_held_from false trace

module _ {State : Type 0} (server : Server State) where
  -- with more notes, which stand behind the notes `before`
  abbrev pub trace_from : ℕ → List NoteValue → List Trace → List NoteValue → List Trace
  trace_from conn before trace [] = trace
  trace_from conn before trace (first ∷ rest) = trace_from conn (before ++ first ∷ []) (traced conn (held_after server before conn) first trace) rest

  -- with all notes
  abbrev pub trace : List NoteValue → ℕ → List Trace
  trace notes conn = trace_from conn [] [] notes
