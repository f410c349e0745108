-- Lines of text, as schedules and reports have them.
use Rattle.std.specs.Prelude.{ℕ, ◌+◌, ◌/◌, ◌%◌, List, [], ◌∷◌, ◌++◌, nat_lt, if◌then◌else◌, codes}

-- a number below 16 as a lower-case hexadecimal digit
abbrev pub hex_digit : ℕ → ℕ
hex_digit n = if nat_lt n 10 then 48 + n else 87 + n

-- octets as hexadecimal digits, two for each
abbrev pub hex : List ℕ → List ℕ
hex [] = []
hex (octet ∷ octets) = hex_digit (octet / 16) ∷ hex_digit (octet % 16) ∷ hex octets

-- octets as hexadecimal digits, or `-` for none
abbrev pub shown : List ℕ → List ℕ
shown [] = codes "-"
shown (octet ∷ octets) = hex (octet ∷ octets)

-- what follows a part of a line: each further part behind a space, and a line feed
abbrev pub rest_of_line : List (List ℕ) → List ℕ
rest_of_line [] = codes "\n"
rest_of_line (part ∷ parts) = 32 ∷ part ++ rest_of_line parts

-- the parts of a line, parted by exactly one space, and a line feed
abbrev pub line : List (List ℕ) → List ℕ
line [] = codes "\n"
line (part ∷ parts) = part ++ rest_of_line parts
