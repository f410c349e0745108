-- What the handler is told of a connection, by the notes: how many items of it were dropped, and whether it drained.
--
-- A connection's mark is the last note that the handler was told of it, or, where there is none, the note that it was opened. Of a
-- connection that is open there is something to tell in two cases:
--
-- - Items of it were dropped since its mark.
-- - It drained: it held no octets as the last turn ended, but some as a turn ended before, or an item of it was dropped before that
--   end. For this the notes count from the last end of a turn before the mark on, that end included; where no turn ended before the
--   mark, all notes count.
--
-- The handler is told the number of these items, and whether it drained.
use Rattle.std.specs.Prelude.{◌≡◌, ℕ, ◌-◌, List, [], ◌∷◌, ◌++◌, Bool, true, ◌&&◌, length, if◌then◌else◌}
use Rattle.std.specs.List.{list_any}
use Rattle.ws_kinds.specs.NoteValue as note
use Rattle.ws_kinds.specs.NoteValue.{NoteValue}
use Rattle.wire_meaning.specs.Answer.{all_spelled}
use Rattle.run_meaning.specs.Notes.{is_turn}
use Rattle.run_meaning.specs.Counts.{taken}
use Rattle.run_meaning.specs.Server.{Server}
use Rattle.run_meaning.specs.Lines.{is_open, phase}
use Rattle.run_meaning.specs.Kept.{kept}
use Rattle.run_meaning.specs.Orders.{is_away}
use Rattle.run_meaning.specs.Tell.{Tell, nothing_told, has_news, at_turn, tell_by, is_told}

module _ {State : Type 0} (server : Server State) where
  -- how many octets a connection holds after these notes: those of its items, without the dropped ones, that its link did not
  -- take. One that is gone holds none.
  abbrev pub held_after : List NoteValue → ℕ → ℕ
  held_after notes conn = if is_away (phase server notes conn) then 0 else length (all_spelled (kept server notes conn)) - taken conn notes

  -- what stands to be told of a connection after a note, which stands behind the notes `before`
  abbrev pub tell_noted : ℕ → List NoteValue → NoteValue → Tell → Tell
  tell_noted conn before this tell = if is_turn this then at_turn (held_after before conn) tell else tell_by conn this tell

  -- and after more notes, which stand there
  abbrev pub tell_from : ℕ → List NoteValue → Tell → List NoteValue → Tell
  tell_from conn before tell [] = tell
  tell_from conn before tell (first ∷ rest) = tell_from conn (before ++ first ∷ []) (tell_noted conn before first tell) rest

  -- what stands to be told of a connection after all notes
  abbrev pub tell : List NoteValue → ℕ → Tell
  tell notes conn = tell_from conn [] nothing_told notes

  -- the connection is open, and there is something to tell of it
  abbrev pub has_to_tell : List NoteValue → ℕ → Bool
  has_to_tell notes conn = is_open (phase server notes conn) && has_news (tell notes conn)

  -- what the handler is told of a connection behind these notes is what stands to be told there, and there is something to tell
  pub record IsToldRight (before : List NoteValue) (conn dropped : ℕ) (drained : Bool) : Type 0 where
    pub dropped_is : dropped ≡ (tell before conn).dropped
    pub drained_is : drained ≡ (tell before conn).drained
    pub news : has_to_tell before conn ≡ true

  -- and so it is of each note that the handler was told
  abbrev pub ToldRight : List NoteValue → Type 0
  ToldRight notes = (before rest : List NoteValue) (conn dropped : ℕ) (drained : Bool) → notes ≡ before ++ note.told conn dropped drained ∷ rest → IsToldRight before conn dropped drained

  -- the handler was told, in the further notes, of each connection of which there is something to tell after the first ones and
  -- which is open after all
  abbrev pub AreTold : List NoteValue → List NoteValue → Type 0
  AreTold before made = (conn : ℕ) → has_to_tell before conn ≡ true → is_open (phase server (before ++ made) conn) ≡ true → list_any (is_told conn) made ≡ true
