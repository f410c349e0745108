-- What a link took of a connection's items, and what was dropped of them.
use Rattle.std.specs.Prelude.{◌≡◌, ℕ, List, [], ◌++◌, Option, Some}
use Rattle.ws_kinds.specs.NoteValue.{NoteValue}
use Rattle.link_trait.specs.NetState.{NetState}
use Rattle.wire_meaning.specs.Answer.{Item}
use Rattle.hub_lines.specs.Told.{taken_of, is_dropped}
use Rattle.hub_lines.specs.Items.{kept}
use Rattle.hub_lines.specs.Lines.{AreFairNotes, IsCounted, Stands}
use Rattle.hub_lines.specs.Moves.{Buffered, with_pending}

-- where net and watch tell: what the connection's link took is a front of the items without those that were dropped
pub record TakesFront (conn : ℕ) (items : List Item) (net : NetState) (told : Option (List NoteValue)) : Type 0 where
  pub where_told : (octets : List ℕ) → taken_of net conn ≡ Some octets → (notes : List NoteValue) → told ≡ Some notes
      → (behind : List ℕ) × (kept (is_dropped conn notes) 0 items ≡ octets ++ behind)

-- and it is all of them
pub record TakesAll (conn : ℕ) (items : List Item) (net : NetState) (told : Option (List NoteValue)) : Type 0 where
  pub where_told : (octets : List ℕ) → taken_of net conn ≡ Some octets → (notes : List NoteValue) → told ≡ Some notes
      → kept (is_dropped conn notes) 0 items ≡ octets

-- where net and watch tell: each drop of the connection was fair
pub record DropsFairly (conn limit : ℕ) (items : List Item) (net : NetState) (told : Option (List NoteValue)) : Type 0 where
  pub where_told : (octets : List ℕ) → taken_of net conn ≡ Some octets → (notes : List NoteValue) → told ≡ Some notes → AreFairNotes conn limit items [] notes

-- A step of one connection that puts the first pending frames, those in `popped`, fails: its link took a front of the items
-- that stood for it.
abbrev pub FailsWithin : ℕ → List (List ℕ) → Buffered → NetState → NetState → Option (List NoteValue) → Option (List NoteValue) → Type 0
FailsWithin conn popped old old_net new_net old_told new_told = IsCounted old.numbered → (pending : List (List ℕ)) (items : List Item)
    → Stands conn (with_pending old (popped ++ pending)) (taken_of old_net conn) old_told items → TakesFront conn items new_net new_told
