-- The topics of each connection, as pairs.
use Rattle.std.specs.Prelude.{ℕ, List, [], ◌∷◌, ◌++◌, map}

-- the pairs of these connections, each beside its topics
abbrev pub pairs_of : List (ℕ × List (List ℕ)) → List (ℕ × List ℕ)
pairs_of [] = []
pairs_of (first ∷ rest) = map (λ topic. (first.0, topic)) first.1 ++ pairs_of rest
