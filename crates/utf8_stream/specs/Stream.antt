-- What is known of text that comes in pieces, RFC 6455 section 8.1.
use Rattle.std.specs.Prelude.{◌≡◌, ℕ, Bool, true, false, List, ◌++◌, None, Some}
use Rattle.std.specs.Str.{is_utf8}
use Rattle.utf8_stream.specs.declared.stream.Text.{Text}
use Rattle.utf8_stream.specs.declared.stream.Text.TheVariants.{Front, Bad}
use Rattle.utf8_stream.specs.declared.stream.Utf8.{Utf8}

-- these octets, coming next, make UTF-8 of all that came
abbrev pub accepts : Utf8 → List ℕ → Bool
accepts None more = false
accepts (Some carried) more = is_utf8 (carried ++ more)

-- `all` is what came so far: what is accepted next is what makes UTF-8 of it
abbrev pub Follows : Utf8 → List ℕ → Type 0
Follows utf8 all = (more : List ℕ) → accepts utf8 more ≡ is_utf8 (all ++ more)

-- the answer is Front
abbrev pub is_front : Text → Bool
is_front Front = true
is_front Bad = false
