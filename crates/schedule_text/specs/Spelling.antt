-- The text of a schedule, version 1.
use Rattle.std.specs.Prelude.{◌≡◌, ◌≤◌, ◌<◌, ◌^◌, ◌++◌, ℕ, List, [], ◌∷◌, Some, None, true, length, IfSome, ⊤, codes, decimal}
use Rattle.std.specs.List.{flat_map, AllByRecursion}
use Rattle.link_trait.specs.declared.act.Act.{Act}
use Rattle.link_trait.specs.declared.act.Act.TheVariants as act
use Rattle.schedule_text.specs.Line.{hex, line}
use Rattle.ws_kinds.specs.Ranges.{AreOctets}

-- an act as a line
abbrev pub spelled : Act → List ℕ
spelled (act.Arrive conn None) = line (codes "a" ∷ decimal conn.0 ∷ codes "*" ∷ [])
spelled (act.Arrive conn (Some credit)) = line (codes "a" ∷ decimal conn.0 ∷ decimal credit ∷ [])
spelled (act.Octets conn octets) = line (codes "r" ∷ decimal conn.0 ∷ hex octets ∷ [])
spelled (act.End conn) = line (codes "e" ∷ decimal conn.0 ∷ [])
spelled (act.ReadFails conn) = line (codes "f" ∷ decimal conn.0 ∷ [])
spelled (act.Room conn more) = line (codes "w" ∷ decimal conn.0 ∷ decimal more ∷ [])
spelled (act.WriteFails conn) = line (codes "b" ∷ decimal conn.0 ∷ [])
spelled act.Tick = line (codes "t" ∷ [])
spelled act.Turn = line (codes "." ∷ [])

-- the first line
abbrev pub header : List ℕ
header = codes "corked 1\n"

-- the first line, and a line for each act
abbrev pub schedule_text : List Act → List ℕ
schedule_text acts = header ++ flat_map spelled acts

-- a connection's number, from 1 to 4,294,967,295
abbrev pub IsNumber : ℕ → Type 0
IsNumber conn = (1 ≤ conn) × (conn < 2 ^ 32)

-- what an act sends is octets, and the room that it gives is a number of 32 bits
abbrev pub IsTyped : Act → Type 0
IsTyped (act.Arrive conn credit) = IfSome credit (λ octets. octets < 2 ^ 32)
IsTyped (act.Octets conn octets) = AreOctets octets
IsTyped (act.Room conn more) = more < 2 ^ 32
IsTyped _ = ⊤

-- an act that a line may say: its numbers and octets are in the ranges that lines have
abbrev pub HasLine : Act → Type 0
HasLine (act.Arrive conn credit) = IsNumber conn.0 × IfSome credit (λ octets. octets < 2 ^ 32)
HasLine (act.Octets conn octets) = IsNumber conn.0 × (1 ≤ length octets) × (length octets ≤ 8192) × AreOctets octets
HasLine (act.End conn) = IsNumber conn.0
HasLine (act.ReadFails conn) = IsNumber conn.0
HasLine (act.Room conn more) = IsNumber conn.0 × (1 ≤ more) × (more < 2 ^ 32)
HasLine (act.WriteFails conn) = IsNumber conn.0
HasLine act.Tick = ⊤
HasLine act.Turn = ⊤
