-- What `next` tells, and what a reader is once its loan is over.
use Rattle.std.specs.Prelude.{◌≡◌, ℕ, ◌+◌, ◌≤◌, Bool, true, false, ◌||◌, List, [], ◌∷◌, ◌++◌, length}
use Rattle.std.specs.Borrow.{MutBor, Fml}
use Rattle.std.specs.Io.BufRead.{Rests}
use Rattle.wire_meaning.specs.Event.{Event, message, ping, pong, closed, failed}
use Rattle.frame_reader.specs.declared.step.Step.{Step}
use Rattle.frame_reader.specs.declared.step.Step.TheVariants as step
use Rattle.frame_reader.specs.declared.reader.Reader.{Reader}
use Rattle.frame_reader.specs.contracts.reader.Reader.{the_row}
use Rattle.frame_reader.specs.Reader.{raw_of, room_of, max_of, ahead, has_ended}

-- the event of a step; `More` has none
abbrev pub events_of : Step → List Event
events_of step.More = []
events_of (step.Message kind octets) = message kind octets.now ∷ []
events_of (step.Ping payload) = ping payload.now ∷ []
events_of (step.Pong payload) = pong payload.now ∷ []
events_of (step.Close code reason) = closed code reason.now ∷ []
events_of (step.Failed code) = failed code ∷ []

abbrev pub IsMore : Step → Type 0
IsMore step.More = Unit {0}
IsMore other = ⊥

-- a close or a failure
abbrev pub is_last : Step → Bool
is_last step.More = false
is_last (step.Message kind octets) = false
is_last (step.Ping payload) = false
is_last (step.Pong payload) = false
is_last (step.Close code reason) = true
is_last (step.Failed code) = true

-- one step of a reader
pub record HasStepped (old : Reader) (s : Step) (new : Reader) : Type 0 where
  -- whatever comes, what was ahead is this event, and then what is ahead now
  pub events : (more : List ℕ) → ahead old more ≡ events_of s ++ ahead new more
  -- `More` comes only where the octets that came give no further event
  pub all_told : IsMore s → ahead new [] ≡ []
  -- and then few octets are left beside those of the open message, unless a close or a failure was told
  pub few : IsMore s → has_ended old ≡ false → length (raw_of new) ≤ 130
  pub ended : has_ended new ≡ (has_ended old || is_last s)
  pub room : room_of old ≤ room_of new
  -- so there is room for all that fits but these few
  pub room_left : IsMore s → has_ended old ≡ false → max_of new + 8318 ≤ room_of new
  pub max : max_of new ≡ max_of old

abbrev pub RestsStepped : MutBor Reader → Step → Fml
RestsStepped reader s = Rests the_row reader (λ new. HasStepped reader.now s new)
