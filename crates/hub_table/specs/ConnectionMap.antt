-- Connections in a slab, found by their numbers, and the numbers of those that are due or ending.
use Rattle.std.specs.Prelude.{◌≡◌, ◌<◌, ◌≤◌, ⊤, ℕ, List, [], ◌∷◌, Option, Some, None, true, is_some, length}
use Rattle.std.specs.BTreeMap.{is_at}
use Rattle.std.specs.Map.{lookup}
use Rattle.std.specs.Ordering.{nat_cmp}
use Rattle.std.specs.Option.{unwrap_or}
use Rattle.slab.specs.Slab.{Slab, get, slab_len}
use Rattle.hub_notes.specs.Table.{AreRising}
use Rattle.hub_table.specs.NumberSet.{NumberSetState}
use Rattle.hub_table.specs.declared.connection.Connection.{Connection}
use Rattle.hub_table.specs.Connection.{no_connection, entries_of, is_due, ends, numbers_where, AreKept}
use Rattle.ws_kinds.specs.ConfigValue.{ConfigValue}

-- what contracts see of the map
pub record ConnectionMapState : Type 0 where
  -- the connections in the order of their numbers
  pub all : List Connection
  -- how many connections it has memory for, but for their keys
  pub room : ℕ

-- the connection under a key
abbrev pub stored_at : Slab Connection → ℕ → Connection
stored_at slab key = unwrap_or (get slab key) no_connection

-- the connections under the keys of these pairs of a number and a key
abbrev pub listed : Slab Connection → List (ℕ × ℕ) → List Connection
listed slab [] = []
listed slab (pair ∷ rest) = stored_at slab pair.1 ∷ listed slab rest

-- each of the keys has a connection, which has the number that stands beside the key
abbrev pub AreStored : Slab Connection → List (ℕ × ℕ) → Type 0
AreStored slab [] = ⊤
AreStored slab (pair ∷ rest) = ((get slab pair.1 ≡ Some (stored_at slab pair.1)) × ((stored_at slab pair.1).socket.conn ≡ pair.0)) × AreStored slab rest

-- the least number above `after` of these pairs, if there is one
abbrev pub IsNextKey : List (ℕ × ℕ) → ℕ → Option ℕ → Type 0
IsNextKey pairs after None = (number : ℕ) → after < number → lookup (is_at (nat_cmp number)) pairs ≡ None
IsNextKey pairs after (Some next) = (after < next) × (is_some (lookup (is_at (nat_cmp next)) pairs) ≡ true)
    × ((number : ℕ) → after < number → number < next → lookup (is_at (nat_cmp number)) pairs ≡ None)

-- what holds of the slab, the pairs of numbers and keys, and the two sets of numbers
pub record IsIndexed (slab : Slab Connection) (pairs : List (ℕ × ℕ)) (due_set ending_set : NumberSetState) : Type 0 where
  pub stored : AreStored slab pairs
  -- no other connections are stored
  pub count : slab_len slab ≡ length pairs
  pub rising : AreRising (entries_of (listed slab pairs))
  -- whose Closed event is due
  pub due : due_set.numbers ≡ numbers_where is_due (listed slab pairs)
  -- who is in phase Ending
  pub ending : ending_set.numbers ≡ numbers_where ends (listed slab pairs)
  -- there is memory for as many in each set as there are connections
  pub few : length (listed slab pairs) ≤ due_set.room
  pub slots : due_set.room ≤ slab.capacity
  pub room : ending_set.room ≡ due_set.room

-- what holds of the connections of a table, with these numbers of a server and this greatest number that was accepted
pub record IsKept (config : ConfigValue) (greatest : ℕ) (map : ConnectionMapState) : Type 0 where
  pub kept : AreKept config greatest map.all
  pub room : map.room ≡ config.max_conns
