-- As a turn begins, the handler is told of each connection that has something to tell, in ascending order.
use Rattle.std.specs.Prelude.{◌≡◌, ◌⊎◌, ◌<◌, ◌≤◌, ℕ, List, Option, Bool, true, false, not, ◌||◌}
use Rattle.std.specs.List.{list_any}
use Rattle.ws_kinds.specs.NoteValue.{NoteValue}
use Rattle.ws_kinds.specs.Watch.{AreNoted}
use Rattle.run_meaning.specs.Tell.{is_told}
use Rattle.hub_lines.specs.State.{HubState, Server}
use Rattle.hub_notes.specs.Progress.{standings_at}
use Rattle.run_laws.specs.Agrees.{is_early}
use Rattle.hub_notes.specs.NextTold.{news_at}

-- the handler was told of the connection by these notes, or it is past Open
abbrev pub is_told_or_left : ℕ → List NoteValue → HubState → Bool
is_told_or_left conn made hub = list_any (is_told conn) made || not (is_early (standings_at hub conn).phase)

-- These notes were made. Each connection that had something to tell was told of by them, or is past Open, or it is one of those
-- that are still owed.
pub record TellsBut (owed : ℕ → Type 0) (old new : HubState) (before after : Option (List NoteValue)) : Type 0 where
  pub made : List NoteValue
  pub told : AreNoted before made after
  pub named : old.named ≤ new.named
  pub all : (conn : ℕ) → conn ≤ old.named → news_at old conn ≡ true → (is_told_or_left conn made new ≡ true) ⊎ owed conn

-- owed are those above a number that still have something to tell
abbrev pub TellsTo : ℕ → Server → Server → Type 0
TellsTo after old new = TellsBut (λ conn. (after < conn) × (news_at new.hub conn ≡ true)) old.hub new.hub old.told new.told

-- none is owed
abbrev pub TellsAll : Server → Server → Type 0
TellsAll old new = TellsBut (λ conn. ⊥) old.hub new.hub old.told new.told

-- So many turns ended. Who was past Open is so still; and where no turn ended, each connection that had something to tell was told of,
-- or is past Open, or has it still.
pub record KeepsOwed (turns : ℕ) (old new : Server) : Type 0 where
  pub made : List NoteValue
  pub told : AreNoted old.told made new.told
  pub named : old.hub.named ≤ new.hub.named
  pub late : (conn : ℕ) → conn ≤ old.hub.named → is_early (standings_at old.hub conn).phase ≡ false → is_early (standings_at new.hub conn).phase ≡ false
  pub owed : turns ≡ 0 → (conn : ℕ) → conn ≤ old.hub.named → news_at old.hub conn ≡ true → (is_told_or_left conn made new.hub ≡ true) ⊎ (news_at new.hub conn ≡ true)
