-- The numbers of connections, each once.
use Rattle.std.specs.Prelude.{◌≡◌, ℕ, List, [], ◌∷◌, false, ⊤}
use Rattle.run_meaning.specs.Counts.{has_number}

-- no number stands in the list twice
abbrev pub AreUnlike : List ℕ → Type 0
AreUnlike [] = ⊤
AreUnlike (first ∷ rest) = (has_number first rest ≡ false) × AreUnlike rest
