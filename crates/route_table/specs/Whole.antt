-- What holds of the rows in a table of routes: each number names a route, and no parameter cuts a character of a path.
use Rattle.std.specs.Prelude.{ℕ, ◌≡◌, ◌<◌, ◌≤◌, List, [], ◌∷◌, cond, ltb, IsUtf8}
use Rattle.std.specs.Str.{IsCharBoundary}
use Rattle.matchit.specs.Rows.{RowsOf, param_token}
use Rattle.matchit.specs.Router.{RouteOf}

-- the octets of a pattern in front of its first parameter
abbrev pub front_of : List ℕ → List ℕ
front_of [] = []
front_of (token ∷ rest) = cond (ltb token param_token) (token ∷ front_of rest) []

-- what follows a pattern's first parameter
abbrev pub rest_of : List ℕ → List ℕ
rest_of [] = []
rest_of (token ∷ rest) = cond (ltb token param_token) (rest_of rest) rest

-- the octets in front of the first parameter are whole characters, and those behind it do not begin within one
pub record IsWhole (pattern : List ℕ) : Type 0 where
  pub front : IsUtf8 (front_of pattern)
  pub rest : IsCharBoundary (rest_of pattern) 0

-- a row of a table of so many routes
pub record IsRow (count : ℕ) (pattern : List ℕ) (route : RouteOf ℕ) : Type 0 where
  pub same : route.pattern ≡ pattern
  pub number : route.value < count
  pub whole : IsWhole pattern

-- each row has this property
abbrev pub AllRows : {K : Type 0} → (List ℕ → K → Type 0) → RowsOf K → Type 0
AllRows P [] = Unit {0}
AllRows P ((pattern, key) ∷ rest) = P pattern key × AllRows P rest

-- what holds of the rows in a table of so many routes
pub record IsTable (rows : RowsOf (RouteOf ℕ)) (count : ℕ) : Type 0 where
  pub bound : count ≤ 255
  pub rows_hold : AllRows (IsRow count) rows
