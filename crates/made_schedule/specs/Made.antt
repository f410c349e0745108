-- The acts of the schedule that a seed makes.
use Rattle.std.specs.Prelude.{ℕ, zero, suc, ◌*◌, List, [], ◌∷◌, ◌++◌, None, codes}
use Rattle.link_trait.specs.declared.act.Act.{Act}
use Rattle.link_trait.specs.declared.act.Act.TheVariants as act
use Rattle.made_schedule.specs.Generator.{state_after}
use Rattle.made_schedule.specs.Message.{message}

-- the request for an upgrade in the room m
unfoldable pub room_head : List ℕ
room_head = codes "GET /room/m HTTP/1.1\r\nHost: a\r\nUpgrade: websocket\r\nConnection: Upgrade\r\nSec-WebSocket-Key: dGhlIHNhbXBsZSBub25jZQ==\r\nSec-WebSocket-Version: 13\r\n\r\n"

-- a connection comes, whose link takes any number of octets, and sends the request
abbrev pub opening : ℕ → List Act
opening number = act.Arrive (record { 0 = number }) None ∷ act.Octets (record { 0 = number }) room_head ∷ []

-- so do the connections from 1 to a number
unfoldable pub openings : ℕ → List Act
openings zero = []
openings (suc count) = openings count ++ opening (suc count)

-- so many messages, from a state on: a step is made for each, and the new state gives it
unfoldable pub messages : ℕ → ℕ → List Act
messages zero state = []
messages (suc count) state = messages count state ++ message (state_after (suc count) state) ∷ []

-- sixteen messages, then a turn's end
abbrev pub round : ℕ → List Act
round state = messages 16 state ++ act.Turn ∷ []

-- so many rounds, from a state on
unfoldable pub rounds : ℕ → ℕ → List Act
rounds zero state = []
rounds (suc count) state = rounds count state ++ round (state_after (16 * count) state)

-- the acts of a seed, which is the first state
abbrev pub made_acts : ℕ → List Act
made_acts seed = openings 64 ++ act.Turn ∷ rounds 500 seed
