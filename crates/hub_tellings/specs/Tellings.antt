-- What is to be told of connections, as rows in rising order of their numbers.
use Rattle.std.specs.Prelude.{◌≡◌, ◌≢◌, ◌<◌, ◌≤◌, ⊤, ℕ, List, [], ◌∷◌, Option, Some, None, Bool, true, false, ◌||◌, nat_eq, length, slice_index_or}
use Rattle.run_meaning.specs.Tell.{Tell}
use Rattle.hub_lines.specs.State.{TellingValue}
use Rattle.hub_notes.specs.Tells.{tell_of}

-- what contracts see: the rows, in rising order of their numbers, and for how many there is memory
pub record TellingsState : Type 0 where
  pub rows : List TellingValue
  pub room : ℕ

-- the connection has a row
abbrev pub has_row : List TellingValue → ℕ → Bool
has_row [] conn = false
has_row (first ∷ rest) conn = nat_eq first.conn conn || has_row rest conn

-- each row's number is greater than this one
abbrev pub AreRowsAbove : ℕ → List TellingValue → Type 0
AreRowsAbove number [] = ⊤
AreRowsAbove number (first ∷ rest) = (number < first.conn) × AreRowsAbove number rest

-- the numbers rise, each stands once
abbrev pub AreRisingRows : List TellingValue → Type 0
AreRisingRows [] = ⊤
AreRisingRows (first ∷ rest) = AreRowsAbove first.conn rest × AreRisingRows rest

-- one connection's row changes; what stands to be told of the others, and whether they have a row, is as it was
pub record ChangesRow (conn : ℕ) (tell : Tell) (old new : TellingsState) : Type 0 where
  pub tell_is : tell_of new.rows conn ≡ tell
  pub others : (other : ℕ) → other ≢ conn → tell_of new.rows other ≡ tell_of old.rows other
  pub has_others : (other : ℕ) → other ≢ conn → has_row new.rows other ≡ has_row old.rows other
  pub room_is : new.room ≡ old.room
  pub rising : AreRisingRows new.rows

-- the least connection above `after` that has a row, if there is one
abbrev pub IsNextRow : List TellingValue → ℕ → Option ℕ → Type 0
IsNextRow rows after None = (conn : ℕ) → after < conn → has_row rows conn ≡ false
IsNextRow rows after (Some conn) = (after < conn) × (has_row rows conn ≡ true) × ((other : ℕ) → after < other → other < conn → has_row rows other ≡ false)

-- ---- places, counted from 0

-- where there is no row
abbrev pub no_row : TellingValue
no_row = record { conn = 0; dropped = 0; drained = false; full = false; dirty = false; fresh = false }

-- the number of the row at this place
abbrev pub number_at : List TellingValue → ℕ → ℕ
number_at rows place = (slice_index_or rows place no_row).conn

-- the connection's row stands at this place
pub record IsRowAt (rows : List TellingValue) (conn place : ℕ) : Type 0 where
  pub in_range : place < length rows
  pub number_is : number_at rows place ≡ conn

-- the connection has no row, and one would stand at this place
pub record IsGapFor (rows : List TellingValue) (conn place : ℕ) : Type 0 where
  pub in_range : place ≤ length rows
  pub less_before : (before : ℕ) → before < place → number_at rows before < conn
  pub greater_after : (behind : ℕ) → place ≤ behind → behind < length rows → conn < number_at rows behind
