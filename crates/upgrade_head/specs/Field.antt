-- The fields of a request head by their names, RFC 9110 sections 5.1 and 5.5.
use Rattle.std.specs.Prelude.{ℕ, List, [], ◌∷◌, Bool, nat_lt, length, map, Option, Some, None, if◌then◌else◌}
use Rattle.std.specs.List.{list_any}
use Rattle.std.specs.Str.{bytes_eq, str_eq_ignore_ascii_case}
use Rattle.httparse.specs.Grammar.{RequestHead}
use Rattle.httparse.specs.Spans.{name_and_value}
use Rattle.upgrade_head.specs.declared.word.Letters.{Letters}
use Rattle.upgrade_head.specs.Word.{lists}

-- the names and the values of fields, in order; a value has no spaces and tabs at its ends
abbrev pub FieldList : Type 0
FieldList = List (List ℕ × List ℕ)

-- the fields of a head
abbrev pub fields_of : RequestHead → FieldList
fields_of head = map name_and_value head.fields

-- the values of the fields of this name, in which letters have no case (RFC 9110, section 5.1)
abbrev pub values_of : List ℕ → FieldList → List (List ℕ)
values_of name [] = []
values_of name (field ∷ rest) =
    if str_eq_ignore_ascii_case field.0 name then field.1 ∷ values_of name rest else values_of name rest

-- some field has this name
abbrev pub has_field : List ℕ → FieldList → Bool
has_field name fields = nat_lt 0 (length (values_of name fields))

-- some field of this name has this value
abbrev pub has_value : List ℕ → List ℕ → FieldList → Bool
has_value name value fields = list_any (λ other. bytes_eq other value) (values_of name fields)

-- some field of this name has the word as an element
abbrev pub has_element : Letters → List ℕ → List ℕ → FieldList → Bool
has_element letters name word fields = list_any (lists letters word) (values_of name fields)

-- the only member of a list that has exactly one
abbrev pub only_of : List (List ℕ) → Option (List ℕ)
only_of [] = None
only_of (value ∷ []) = Some value
only_of (value ∷ next ∷ rest) = None

-- the value of the field of this name, where there is exactly one
abbrev pub only_value : List ℕ → FieldList → Option (List ℕ)
only_value name fields = only_of (values_of name fields)
