-- Words in the values of fields, RFC 9110 section 5.6.1.
use Rattle.std.specs.Prelude.{ℕ, List, [], ◌∷◌, ◌++◌, Bool, ◌==◌, if◌then◌else◌}
use Rattle.std.specs.List.{list_any}
use Rattle.std.specs.Str.{bytes_eq, str_eq_ignore_ascii_case}
use Rattle.httparse.specs.Grammar.{trim_ows}
use Rattle.upgrade_head.specs.declared.word.Letters.{Letters}
use Rattle.upgrade_head.specs.declared.word.Letters.TheVariants.{AnyCase, AsWritten}

-- the words are the same, with their letters compared so
abbrev pub is_same : Letters → List ℕ → List ℕ → Bool
is_same AnyCase word other = str_eq_ignore_ascii_case word other
is_same AsWritten word other = bytes_eq word other

-- the parts of a value between its commas, where `part` was read of the first
abbrev pub parts_after : List ℕ → List ℕ → List (List ℕ)
parts_after part [] = part ∷ []
parts_after part (octet ∷ rest) =
    if octet == 44 then part ∷ parts_after [] rest else parts_after (part ++ octet ∷ []) rest

-- the part, without the spaces and tabs at its ends, is the word
abbrev pub is_element : Letters → List ℕ → List ℕ → Bool
is_element letters word part = is_same letters (trim_ows part) word

-- some element of the value is the word
abbrev pub lists : Letters → List ℕ → List ℕ → Bool
lists letters word value = list_any (is_element letters word) (parts_after [] value)
