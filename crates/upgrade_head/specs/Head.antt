-- Where a request head ends, and what a whole head is, RFC 9112 sections 2.1 and 2.2.
use Rattle.std.specs.Prelude.{ℕ, ◌+◌, ◌≤◌, List, [], ◌∷◌, Option, Some, None, codes, length, take, if◌then◌else◌}
use Rattle.std.specs.Str.{bytes_eq}
use Rattle.httparse.specs.Grammar.{RequestHead, ReadsRequest}

-- an empty line and the end of the line before it: CR LF CR LF
abbrev pub empty_line : List ℕ
empty_line = codes "\r\n\r\n"

-- the place behind the first CR LF CR LF in these octets, where so many octets stand before them
abbrev pub end_behind : ℕ → List ℕ → Option ℕ
end_behind before [] = None
end_behind before (octet ∷ rest) =
    if bytes_eq (take 4 (octet ∷ rest)) empty_line then Some (before + 4) else end_behind (before + 1) rest

-- how many octets the head has: all up to and including the first CR LF CR LF that stands within the first 8,192
-- octets; None where it does not stand there
abbrev pub head_end : List ℕ → Option ℕ
head_end octets = end_behind 0 (take 8192 octets)

-- the octets are this request head of the grammar that `httparse` reads, with at most 64 fields, and nothing more
abbrev pub IsHead : List ℕ → RequestHead → Type 0
IsHead octets head = ReadsRequest octets head [] × (length head.fields ≤ 64)

-- the octets are one whole request head with at most 64 fields
abbrev pub IsWholeHead : List ℕ → Type 0
IsWholeHead octets = (head : RequestHead) × IsHead octets head
