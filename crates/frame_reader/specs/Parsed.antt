-- What taking one part of the octets does to a reader.
use Rattle.std.specs.Prelude.{◌≡◌, ℕ, Bool, true, false, ◌+◌, ◌-◌, ◌<◌, ◌≤◌, List, [], ◌∷◌, ◌++◌, length, take, drop}
use Rattle.wire_meaning.specs.Event.{Event, message, ping, pong, closed, failed}
use Rattle.frame_reader.specs.declared.reader.Reader.{Reader}
use Rattle.frame_reader.specs.declared.reader.EventSpan.{EventSpan}
use Rattle.frame_reader.specs.declared.reader.EventSpan.TheVariants as span
use Rattle.frame_reader.specs.declared.reader.Parsed.{Parsed}
use Rattle.frame_reader.specs.declared.reader.Parsed.TheVariants as parsed
use Rattle.frame_reader.specs.State.{weight}
use Rattle.frame_reader.specs.Reader.{raw_of, ahead, has_ended}

-- whatever comes, these events were told between the one and the other
abbrev pub Tells : Reader → List Event → Reader → Type 0
Tells old events new = (more : List ℕ) → ahead old more ≡ events ++ ahead new more

-- the last of the raw octets that were taken
abbrev pub last : ℕ → ℕ → List ℕ → List ℕ
last size start octets = drop (start - size) (take start octets)

-- the event that was told, whose octets are among the raw ones before `start`, or the message's
abbrev pub span_event : EventSpan → ℕ → List ℕ → List ℕ → Event
span_event (span.Message kind) start octets all = message kind all
span_event (span.Ping size) start octets all = ping (last size start octets)
span_event (span.Pong size) start octets all = pong (last size start octets)
span_event (span.Close code size) start octets all = closed code (last size start octets)
span_event (span.Failed code) start octets all = failed code

abbrev pub event_of : EventSpan → Reader → Event
event_of t r = span_event t r.start r.raw.items r.message.items

-- the octets that are lent with it
abbrev pub lent_of : EventSpan → ℕ
lent_of (span.Message kind) = 0
lent_of (span.Ping size) = size
lent_of (span.Pong size) = size
lent_of (span.Close code size) = size
lent_of (span.Failed code) = 0

-- what falls with each part that tells nothing
abbrev pub burden : Reader → ℕ
burden r = length (raw_of r) + weight r.state

-- nothing is told of the octets that came, and few of them are raw
pub record AwaitsOctets (r : Reader) : Type 0 where
  pub all : ahead r [] ≡ []
  pub few : length (raw_of r) ≤ 130
  pub goes_on : has_ended r ≡ false

-- a close or a failure
abbrev pub is_last : EventSpan → Bool
is_last (span.Message kind) = false
is_last (span.Ping size) = false
is_last (span.Pong size) = false
is_last (span.Close code size) = true
is_last (span.Failed code) = true

pub record HasEvent (t : EventSpan) (old new : Reader) : Type 0 where
  pub tells : Tells old (event_of t new ∷ []) new
  pub lent : lent_of t ≤ new.start
  pub ended : has_ended new ≡ is_last t

abbrev pub ParsedIs : Parsed → Reader → Reader → Type 0
ParsedIs parsed.Incomplete old new = Tells old [] new × AwaitsOctets new
ParsedIs parsed.Part old new = Tells old [] new × (burden new < burden old) × (has_ended new ≡ false)
ParsedIs (parsed.Event t) old new = HasEvent t old new

-- what no part changes, and no part adds to
pub record Keeps (old new : Reader) : Type 0 where
  pub max : new.max_message ≡ old.max_message
  pub raw : length (raw_of new) ≤ length (raw_of old)
