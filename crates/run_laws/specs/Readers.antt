-- What a reader of frames has to tell, as plain values: wherever its octets lie, and of whatever type it is.
use Rattle.std.specs.Prelude.{◌≡◌, ℕ, List, [], ◌∷◌, ◌++◌, Bool, true, false}
use Rattle.wire_meaning.specs.Event as wire
use Rattle.wire_meaning.specs.Event.{Event}
use Rattle.frame_reader.specs.declared.reader.Reader.{Reader}
use Rattle.frame_reader.specs.Reader as reader

pub record ReaderView : Type 0 where
  -- the events that are still to be told, if these octets come
  pub ahead : List ℕ → List Event
  -- the octets that came and were not taken yet
  pub raw : List ℕ
  -- the most octets that a message may have
  pub max : ℕ
  -- nothing was read of the octets that came
  pub unread : Bool

abbrev pub reader_view : Reader → ReaderView
reader_view r = record { ahead = λ further. reader.ahead r further; raw = reader.raw_of r; max = reader.max_of r; unread = reader.is_unread r }

-- these octets were fed: what `Reader::feed` ensures
pub record IsFed (came : List ℕ) (old new : ReaderView) : Type 0 where
  pub raw : new.raw ≡ old.raw ++ came
  pub unread : new.unread ≡ old.unread
  pub max : new.max ≡ old.max
  pub ahead : (further : List ℕ) → new.ahead further ≡ old.ahead (came ++ further)

-- a close or a failure
abbrev pub is_over : Event → Bool
is_over (wire.closed code reason) = true
is_over (wire.failed code) = true
is_over _ = false

-- where a reader tells this, the octets that came give no further event
abbrev pub is_all : List Event → Bool
is_all [] = true
is_all (event ∷ []) = is_over event
is_all _ = false

-- One step of a reader, which tells an event or none: what `Reader::next` ensures.
pub record IsRead (old : ReaderView) (events : List Event) (new : ReaderView) : Type 0 where
  -- whatever comes, what was ahead is this event, and then what is ahead now
  pub tells : (further : List ℕ) → old.ahead further ≡ events ++ new.ahead further
  pub none : is_all events ≡ true → new.ahead [] ≡ []
