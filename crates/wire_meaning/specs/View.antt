-- The values of the program as the definitions see them, without where they lie in memory.
use Rattle.std.specs.Prelude.{option_map}
use Rattle.wire_meaning.specs.declared.event.OwnedEvent.{OwnedEvent}
use Rattle.wire_meaning.specs.declared.event.OwnedEvent.TheVariants as owned
use Rattle.wire_meaning.specs.declared.opening.Opening.{Opening}
use Rattle.wire_meaning.specs.declared.reading.Begun.{Begun}
use Rattle.wire_meaning.specs.declared.reading.Front.{Front}
use Rattle.wire_meaning.specs.declared.reading.Front.TheVariants as fronts
use Rattle.wire_meaning.specs.Frame as frames
use Rattle.wire_meaning.specs.Reading as readings
use Rattle.wire_meaning.specs.Event as events

-- an event that owns its octets
abbrev pub event_view : OwnedEvent → events.Event
event_view (owned.Message kind octets) = events.message kind octets.items
event_view (owned.Ping payload) = events.ping payload.items
event_view (owned.Pong payload) = events.pong payload.items
event_view (owned.Close code reason) = events.closed code reason.items
event_view (owned.Failed code) = events.failed code

-- the parts of a frame, as slices
abbrev pub opening_view : Opening → frames.Opening
opening_view o = record { first = o.first; second = o.second; size = o.size; key = option_map (λ k. k.now) o.key; payload = o.payload.now; rest = o.rest.now }

-- an open message that owns its octets
abbrev pub begun_view : Begun → readings.Begun
begun_view b = record { kind = b.kind; octets = b.octets.items }

-- what the frame at the front gives, with a slice of what follows
abbrev pub front_view : Front → readings.Front
front_view fronts.More = readings.more
front_view (fronts.Ends event) = readings.ends (event_view event)
front_view (fronts.Opens begun rest) = readings.opens (begun_view begun) rest.now
front_view (fronts.Gives event begun rest) = readings.gives (event_view event) (option_map begun_view begun) rest.now
