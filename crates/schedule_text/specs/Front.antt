-- What the calls of the cursor take off the front of octets: a value and what follows it, or nothing.
use Rattle.std.specs.Prelude.{◌≡◌, ◌==◌, ◌&&◌, ◌+◌, ◌-◌, ◌*◌, ◌^◌, ℕ, List, [], ◌∷◌, Option, Some, None, Result, Ok, Err, Bool, true, false, not, nat_lt, nat_le, length, take, drop, if◌then◌else◌, ⊤}
use Rattle.std.specs.Char.{is_ascii_digit}
use Rattle.std.specs.List.{prefix_len}
use Rattle.std.specs.Str.Parse.{digits_value}
use Rattle.std.specs.declared.alloc.AllocError.{AllocError}
use Rattle.std.specs.Global.{Vec}
use Rattle.link_trait.specs.declared.act.Act.{Act}
use Rattle.link_trait.specs.declared.act.Act.TheVariants as act
use Rattle.ws_kinds.specs.declared.conn.Conn.{Conn}

infixl 10 ◌>>=◌
abbrev pub ◌>>=◌ : {A B : Type 0} → Option A → (A → Option B) → Option B
None >>= f = None
(Some x) >>= f = f x

-- a call gave what stands at the front, and goes on behind it
abbrev pub Takes : {A : Type 0} → List ℕ → Option A → Option (A × List ℕ) → Type 0
Takes new (Some x) front = front ≡ Some (x, new)
Takes new None front = front ≡ None

-- the same, unless memory ran out
abbrev pub TakesUnlessMemory : {A : Type 0} → List ℕ → Result (Option A) AllocError → Option (A × List ℕ) → Type 0
TakesUnlessMemory new (Ok given) front = Takes new given front
TakesUnlessMemory new (Err memory) front = ⊤

-- the same of a list of octets
abbrev pub PairsUnlessMemory : List ℕ → Result (Vec ℕ) AllocError → List ℕ × List ℕ → Type 0
PairsUnlessMemory new (Ok octets) front = front ≡ (octets.items, new)
PairsUnlessMemory new (Err memory) front = ⊤

-- this octet
abbrev pub octet_at : ℕ → List ℕ → Option (Unit {0} × List ℕ)
octet_at octet [] = None
octet_at octet (first ∷ rest) = if first == octet then Some (tt, rest) else None

-- how many decimal digits stand at the front
abbrev pub digit_count : List ℕ → ℕ
digit_count octets = prefix_len is_ascii_digit octets

-- a digit, or more of which the first is not zero
abbrev pub has_no_leading_zero : List ℕ → Bool
has_no_leading_zero [] = false
has_no_leading_zero (first ∷ []) = true
has_no_leading_zero (first ∷ second ∷ rest) = not (first == 48)

-- the number that decimal digits write, below 2 ^ 32
abbrev pub value_of : List ℕ → Option ℕ
value_of digits = if nat_lt (digits_value 10 digits) (2 ^ 32) then Some (digits_value 10 digits) else None

-- the same, where they have no leading zero
abbrev pub number_of : List ℕ → Option ℕ
number_of digits = if has_no_leading_zero digits then value_of digits else None

-- a number
unfoldable pub number_at : List ℕ → Option (ℕ × List ℕ)
number_at octets = do
  number ← number_of (take (digit_count octets) octets)
  Some (number, drop (digit_count octets) octets)

-- a number from 1 behind a space
unfoldable pub positive_at : List ℕ → Option (ℕ × List ℕ)
positive_at octets = do
  space ← octet_at 32 octets
  number ← number_at space.1
  if number.0 == 0 then None else Some (number.0, number.1)

-- a connection's number behind a space
unfoldable pub conn_at : List ℕ → Option (Conn × List ℕ)
conn_at octets = do
  number ← positive_at octets
  Some (record { 0 = number.0 }, number.1)

-- the value of a lower-case hexadecimal digit
abbrev pub hex_value : ℕ → Option ℕ
hex_value digit =
    if nat_le 48 digit && nat_le digit 57 then Some (digit - 48)
    else if nat_le 97 digit && nat_le digit 102 then Some (digit - 87)
    else None

-- the octet that two of them write
abbrev pub pair_value : ℕ → ℕ → Option ℕ
pair_value high low = hex_value high >>= λ h. hex_value low >>= λ l. Some (16 * h + l)

abbrev pub pairs_with : Option ℕ → List ℕ → List ℕ × List ℕ → List ℕ × List ℕ
pairs_with None octets later = ([], octets)
pairs_with (Some octet) octets later = (octet ∷ later.0, later.1)

-- the octets that pairs of hexadecimal digits write, as many as there are, and what follows
abbrev pub pairs_at : List ℕ → List ℕ × List ℕ
pairs_at [] = ([], [])
pairs_at (first ∷ []) = ([], first ∷ [])
pairs_at (first ∷ second ∷ rest) = pairs_with (pair_value first second) (first ∷ second ∷ rest) (pairs_at rest)

-- 1 to 8,192 octets
unfoldable pub sent_at : List ℕ → Option (List ℕ × List ℕ)
sent_at octets = if nat_le 1 (length (pairs_at octets).0) && nat_le (length (pairs_at octets).0) 8192 then Some (pairs_at octets) else None

-- a connection's number, and the end of the line
unfoldable pub named_at : List ℕ → Option (Conn × List ℕ)
named_at octets = do
  conn ← conn_at octets
  end ← octet_at 10 conn.1
  Some (conn.0, end.1)

-- a star for no credit, or a number
unfoldable pub credit_at : List ℕ → Option (Option ℕ × List ℕ)
credit_at [] = None
credit_at (first ∷ rest) = if first == 42 then Some (None, rest) else number_at (first ∷ rest) >>= λ number. Some (Some number.0, number.1)

-- what follows the letter of an arrival
unfoldable pub arrival_at : List ℕ → Option (Act × List ℕ)
arrival_at octets = do
  conn ← conn_at octets
  space ← octet_at 32 conn.1
  credit ← credit_at space.1
  end ← octet_at 10 credit.1
  Some (act.Arrive conn.0 credit.0, end.1)

-- what follows the letter of room
unfoldable pub room_at : List ℕ → Option (Act × List ℕ)
room_at octets = do
  conn ← conn_at octets
  more ← positive_at conn.1
  end ← octet_at 10 more.1
  Some (act.Room conn.0 more.0, end.1)

-- what follows the letter of octets
unfoldable pub octets_at : List ℕ → Option (Act × List ℕ)
octets_at octets = do
  conn ← conn_at octets
  space ← octet_at 32 conn.1
  sent ← sent_at space.1
  end ← octet_at 10 sent.1
  Some (act.Octets conn.0 sent.0, end.1)

-- what follows a letter alone
abbrev pub alone_at : Act → List ℕ → Option (Act × List ℕ)
alone_at act octets = octet_at 10 octets >>= λ end. Some (act, end.1)

abbrev pub with_conn : (Conn → Act) → List ℕ → Option (Act × List ℕ)
with_conn act octets = named_at octets >>= λ conn. Some (act conn.0, conn.1)

-- a line of an act
unfoldable pub act_at : List ℕ → Option (Act × List ℕ)
act_at [] = None
act_at (letter ∷ rest) =
    if letter == 97 then arrival_at rest
    else if letter == 114 then octets_at rest
    else if letter == 101 then with_conn act.End rest
    else if letter == 102 then with_conn act.ReadFails rest
    else if letter == 119 then room_at rest
    else if letter == 98 then with_conn act.WriteFails rest
    else if letter == 116 then alone_at act.Tick rest
    else if letter == 46 then alone_at act.Turn rest
    else None
