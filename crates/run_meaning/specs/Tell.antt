-- What stands to be told of a connection's items.
use Rattle.std.specs.Prelude.{ℕ, ◌+◌, ◌-◌, ◌^◌, min, List, [], ◌∷◌, Bool, true, false, ◌&&◌, ◌||◌, nat_eq, nat_lt, if◌then◌else◌}
use Rattle.ws_kinds.specs.NoteValue as note
use Rattle.ws_kinds.specs.NoteValue.{NoteValue}

pub record Tell : Type 0 where
  -- how many items were dropped since the connection was opened, or since the handler was told last; the count stands still at
  -- 2 ^ 64 - 1
  pub dropped : ℕ
  -- as the last turn ended, the connection was drained: it held nothing, and held octets before, or an item was dropped
  pub drained : Bool
  -- it held octets as the last turn ended
  pub full : Bool
  -- since the handler was told last, it held octets as a turn ended, or an item was dropped before the last turn ended
  pub dirty : Bool
  -- an item was dropped since the last turn ended
  pub fresh : Bool

abbrev pub nothing_told : Tell
nothing_told = record { dropped = 0; drained = false; full = false; dirty = false; fresh = false }

-- there is something to tell
abbrev pub has_news : Tell → Bool
has_news tell = nat_lt 0 tell.dropped || tell.drained

-- the connection is opened, or the handler is told
abbrev pub marked : Tell → Tell
marked tell = record { dropped = 0; drained = false; full = tell.full; dirty = tell.full; fresh = tell.fresh }

-- an item is dropped
abbrev pub one_dropped : Tell → Tell
one_dropped tell = record { dropped = min (tell.dropped + 1) (2 ^ 64 - 1); drained = tell.drained; full = tell.full; dirty = tell.dirty; fresh = true }

-- a turn ends, while so many octets are held
abbrev pub at_turn : ℕ → Tell → Tell
at_turn held tell = record {
  dropped = tell.dropped;
  drained = nat_eq held 0 && (tell.dirty || tell.fresh);
  full = nat_lt 0 held;
  dirty = (tell.dirty || tell.fresh) || nat_lt 0 held;
  fresh = false;
}

-- the note says that the handler was told of this connection
abbrev pub is_told : ℕ → NoteValue → Bool
is_told conn (note.told other dropped drained) = nat_eq other conn
is_told conn _ = false

-- the note says that the handler was told
abbrev pub is_telling : NoteValue → Bool
is_telling (note.told conn dropped drained) = true
is_telling _ = false

-- what stands to be told of a connection after a note, turns aside; of one that is gone nothing
abbrev pub tell_by : ℕ → NoteValue → Tell → Tell
tell_by conn (note.opened other route param) tell = if nat_eq other conn then marked tell else tell
tell_by conn (note.told other dropped drained) tell = if nat_eq other conn then marked tell else tell
tell_by conn (note.dropped other index held) tell = if nat_eq other conn then one_dropped tell else tell
tell_by conn (note.gone other left) tell = if nat_eq other conn then nothing_told else tell
tell_by conn _ tell = tell

abbrev pub tell_by_all : ℕ → List NoteValue → Tell → Tell
tell_by_all conn [] tell = tell
tell_by_all conn (first ∷ rest) tell = tell_by_all conn rest (tell_by conn first tell)
