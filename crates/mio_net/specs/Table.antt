-- The table of live connections, and what is told of one.
use Rattle.std.specs.Prelude.{ℕ, Bool, false, is_some}
use Rattle.std.specs.Option.{option_map_or}
use Rattle.std.specs.Ordering.{nat_cmp}
use Rattle.std.specs.BTreeMap.{BTreeMap, get}
use Rattle.mio_net.specs.declared.peers.Peer.{Peer}

-- the table has the connection
abbrev pub is_live : BTreeMap ℕ Peer → ℕ → Bool
is_live peers conn = is_some (get nat_cmp peers conn)

-- Readable was told of it, and it was not read since
abbrev pub is_due : BTreeMap ℕ Peer → ℕ → Bool
is_due peers conn = option_map_or (λ peer. peer.due) (get nat_cmp peers conn) false

-- no write was short since Accept or Writable was told of it
abbrev pub is_writable : BTreeMap ℕ Peer → ℕ → Bool
is_writable peers conn = option_map_or (λ peer. peer.writable) (get nat_cmp peers conn) false
