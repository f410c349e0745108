-- One field further on.
use Rattle.upgrade_head.proofs.Below.{◌≡◌, ℕ, List, ◌∷◌, map, Bool, true, false, ap, ◌∙◌, list_any, str_eq_ignore_ascii_case, FieldList, values_of}

unnamed : (name : List ℕ) (field : List ℕ × List ℕ) (fields : FieldList) → str_eq_ignore_ascii_case field.0 name ≡ false → values_of name (field ∷ fields) ≡ values_of name fields
unnamed name field fields h = rw h

named : (name : List ℕ) (field : List ℕ × List ℕ) (fields : FieldList) → str_eq_ignore_ascii_case field.0 name ≡ true → values_of name (field ∷ fields) ≡ field.1 ∷ values_of name fields
named name field fields h = rw h

module _ {X : Type 0} (name : List ℕ) (f : X → List ℕ × List ℕ) (x : X) (more rest : List X) where
  pub one_more : rest ≡ x ∷ more → str_eq_ignore_ascii_case (f x).0 name ≡ false → values_of name (map f rest) ≡ values_of name (map f more)
  one_more is other = ap (λ (xs : List X). values_of name (map f xs)) is ∙ unnamed name (f x) (map f more) other
