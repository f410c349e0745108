-- What will be told of a connection's octets, when some of them have come.
use Rattle.std.specs.Prelude.{ℕ, ◌+◌, ◌-◌, Bool, ◌==◌, List, ◌++◌, length, take, drop}
use Rattle.ws_kinds.specs.declared.kind.Kind.{Kind}
use Rattle.wire_meaning.specs.Mask.{unmasked}
use Rattle.wire_meaning.specs.Reading.{Front, data_front}

-- a data frame whose payload is coming
pub record Middle : Type 0 where
  pub final : Bool
  pub kind : Kind
  -- the octets of the message that came, this frame's with them
  pub all : List ℕ
  -- how many octets of the payload are still to come, the key, and the place of the next one in the payload
  pub left : ℕ
  pub key : List ℕ
  pub place : ℕ

-- what the frame gives if these octets come
abbrev pub middle_front : Middle → List ℕ → Front
middle_front m octets = data_front m.final (length (take m.left octets) == m.left) m.kind (m.all ++ unmasked m.key m.place (take m.left octets)) (drop m.left octets)

-- the frame when some of its octets were taken
abbrev pub moved : Middle → List ℕ → Middle
moved m octets = record { final = m.final; kind = m.kind; all = m.all ++ unmasked m.key m.place octets; left = m.left - length octets; key = m.key; place = m.place + length octets }
