-- A table of routes, and what a path finds in it. Patterns and paths are matched by `matchit`, whose words these definitions cite.
use Rattle.std.specs.Prelude.{ℕ, List, [], ◌∷◌, ◌++◌, Bool, true, Option, Some, None, Result, Ok, Err, is_some, length, map, nat_lt, if◌then◌else◌}
use Rattle.arrayvec.specs.ArrayVec.{ArrayVec}
use Rattle.matchit.specs.Rows.{RowsOf}
use Rattle.matchit.specs.Router.{RouteOf, nearest, route_from}
use Rattle.matchit.specs.Order.{placed}
use Rattle.matchit.specs.Params.{walk}
use Rattle.matchit.specs.Seek.{first}
use Rattle.matchit.specs.Route.{parse_route, Scan}
use Rattle.matchit.specs.declared.error.InsertError.{InsertError}

pub record RouteTable : Type 0 where
  -- the rows of `matchit`'s router, where the value of a route is its number
  pub rows : RowsOf (RouteOf ℕ)
  -- the names of the subprotocols, by the routes' numbers
  pub protocols : List (List ℕ)

-- a table without routes
abbrev pub no_routes : RouteTable
no_routes = record { rows = []; protocols = [] }

-- the octets of each name
abbrev pub names_of : List (ArrayVec ℕ) → List (List ℕ)
names_of names = map (λ name. name.items) names

-- the rows with a route of this number in its place, where its pattern read
abbrev pub rows_with : Result Scan InsertError → ℕ → RowsOf (RouteOf ℕ) → RowsOf (RouteOf ℕ)
rows_with (Ok read) number rows = placed (read.pattern, route_from read number) rows
rows_with (Err e) number rows = rows

-- the table with one more route, whose number is how many there were
abbrev pub with_route : RouteTable → List ℕ → List ℕ → RouteTable
with_route table pattern protocol = record {
  rows = rows_with (parse_route pattern) (length table.protocols) table.rows;
  protocols = table.protocols ++ protocol ∷ [];
}

-- the rows have one that a pattern conflicts with, or the pattern did not read
abbrev pub is_refused_as : Result Scan InsertError → RowsOf (RouteOf ℕ) → Bool
is_refused_as (Ok read) rows = is_some (nearest read.pattern rows)
is_refused_as (Err e) rows = true

-- `matchit` refuses the pattern for another cause than memory: it does not read, or it conflicts with that of a route in the table
abbrev pub is_refused : RouteTable → List ℕ → Bool
is_refused table pattern = is_refused_as (parse_route pattern) table.rows

-- of the parameters' names with what they took of a path, what the first took, or nothing
abbrev pub first_value : List (List ℕ × List ℕ) → List ℕ
first_value [] = []
first_value (parameter ∷ rest) = parameter.1

-- what the route's first parameter takes of a path that the route matches, empty where it has none
abbrev pub value_of : RouteOf ℕ → List ℕ → List ℕ
value_of route path = first_value (walk route.pattern route.text path route.names 0 0)

-- a route's number and its parameter, unless this has more than 64 octets
abbrev pub answer_of : ℕ → List ℕ → Option (ℕ × List ℕ)
answer_of number value = if nat_lt 64 (length value) then None else Some (number, value)

-- the answer for the route that the path matches, if there is one
abbrev pub found_at : Option (RouteOf ℕ) → List ℕ → Option (ℕ × List ℕ)
found_at None path = None
found_at (Some route) path = answer_of route.value (value_of route path)

-- the number of the route that `matchit` finds for the path, and what its first parameter takes: none exactly where no route matches or the parameter has more than 64 octets
abbrev pub found : RouteTable → List ℕ → Option (ℕ × List ℕ)
found table path = found_at (first table.rows path) path
