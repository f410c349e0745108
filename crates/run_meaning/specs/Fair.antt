-- An item is dropped only while its connection's backlog stands over its limit.
use Rattle.std.specs.Prelude.{◌≡◌, ◌<◌, ◌+◌, ℕ, List, ◌∷◌, ◌++◌, Some, true, false, length, take, slice_get}
use Rattle.ws_kinds.specs.ConfigValue.{ConfigValue}
use Rattle.ws_kinds.specs.NoteValue as note
use Rattle.ws_kinds.specs.NoteValue.{NoteValue}
use Rattle.wire_meaning.specs.Answer.{Item, all_spelled, can_drop}
use Rattle.run_meaning.specs.Counts.{drops, ends_short, has_number, taken, writes}
use Rattle.run_meaning.specs.Server.{Server}
use Rattle.run_meaning.specs.Lines.{plain}
use Rattle.run_meaning.specs.Kept.{kept_of}

-- a drop of the item with this index, behind these notes, with the number of octets that were held then
pub record IsFair (limit : ℕ) (items : List Item) (before : List NoteValue) (conn index held : ℕ) : Type 0 where
  -- the item is a data frame, a ping or a pong
  pub item : Item
  pub is : slice_get items index ≡ Some item
  pub droppable : can_drop item ≡ true
  -- it was not dropped before
  pub once : has_number index (drops conn before) ≡ false
  -- more was held than the limit
  pub over : limit < held
  -- the link took less than it was offered last
  pub short : ends_short false (writes conn before) ≡ true
  -- what was held: the octets of the items before it that were not dropped, without those that the link took
  pub amount : held + taken conn before ≡ length (all_spelled (kept_of (drops conn before) (take index items)))

-- each drop was fair
abbrev pub Fair : {State : Type 0} → Server State → ConfigValue → List NoteValue → Type 0
Fair server config notes = (before rest : List NoteValue) (conn index held : ℕ) → notes ≡ before ++ note.dropped conn index held ∷ rest
    → IsFair config.limit (plain server notes conn) before conn index held
