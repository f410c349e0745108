-- What a reader can tell.
use Rattle.std.specs.Prelude.{◌≡◌, ◌≤◌, ⊤, true, List, [], ◌∷◌, length}
use Rattle.wire_meaning.specs.Event.{Event, message, ping, pong, closed, failed}
use Rattle.wire_meaning.specs.Bounds.{is_failure}
use Rattle.hub_notes.specs.Answers.{FitsCloseFrame}

-- a ping is short; a close has no code and no reason, or a code that may be sent and a short reason; and a failure has a code
-- that the standard has for it
abbrev pub IsSound : Event → Type 0
IsSound (message kind octets) = ⊤
IsSound (ping payload) = length payload ≤ 125
IsSound (pong payload) = ⊤
IsSound (closed code reason) = FitsCloseFrame code reason
IsSound (failed code) = is_failure code ≡ true

abbrev pub AreSound : List Event → Type 0
AreSound [] = ⊤
AreSound (event ∷ events) = IsSound event × AreSound events
