-- What contracts see of a backlog.
use Rattle.std.specs.Prelude.{ℕ, ◌+◌, ◌-◌, ◌^◌, min, List, [], ◌++◌, drop}
use Rattle.ws_kinds.specs.declared.tally.Tally.{Tally}

pub record RingValue : Type 0 where
  -- in the order in which they were put
  pub octets : List ℕ
  -- how many there can be
  pub capacity : ℕ

abbrev pub empty_ring : ℕ → RingValue
empty_ring capacity = record { octets = []; capacity = capacity }

-- with further octets behind its own
abbrev pub with_octets : List ℕ → RingValue → RingValue
with_octets more ring = record ring { octets = ring.octets ++ more }

-- without its first octets, so many of them
abbrev pub without_first : ℕ → RingValue → RingValue
without_first count ring = record ring { octets = drop count ring.octets }

-- so many octets more were copied into a backlog; the count stands still at 2 ^ 64 - 1
abbrev pub ringed_more : ℕ → Tally → Tally
ringed_more count tally = record tally { ringed = min (tally.ringed + count) (2 ^ 64 - 1) }
