-- What the reader keeps of the acts so far.
use Rattle.std.specs.Prelude.{◌≡◌, ◌≤◌, ℕ, List, Option, Some, None, Bool, true, false, nat_eq, nat_lt, if◌then◌else◌}
use Rattle.std.specs.Ordering.{nat_cmp}
use Rattle.std.specs.BTreeMap.{get}
use Rattle.mem_net.specs.Schedule.{is_rising, has_arrived, has_ended}
use Rattle.link_trait.specs.declared.act.Act.{Act}
use Rattle.schedule_text.specs.declared.arrivals.Arrivals.{Arrivals}

-- whether the octets of a connection ended, if it arrived
abbrev pub ended_after : List Act → ℕ → Option Bool
ended_after acts conn = if has_arrived acts conn then Some (has_ended acts conn) else None

pub record Follows (acts : List Act) (arrivals : Arrivals) : Type 0 where
  pub last : (conn : ℕ) → 1 ≤ conn → nat_lt arrivals.last conn ≡ is_rising acts conn
  pub ended : (conn : ℕ) → get nat_cmp arrivals.ended conn ≡ ended_after acts conn
  pub arrived : (conn : ℕ) → has_ended acts conn ≡ true → has_arrived acts conn ≡ true

-- a connection arrived
pub record Arrives (conn : ℕ) (before after : Arrivals) : Type 0 where
  pub last : after.last ≡ conn
  pub ended : (other : ℕ) → get nat_cmp after.ended other ≡ (if nat_eq conn other then Some false else get nat_cmp before.ended other)

-- the octets of a connection ended
pub record Ends (conn : ℕ) (before after : Arrivals) : Type 0 where
  pub last : after.last ≡ before.last
  pub ended : (other : ℕ) → get nat_cmp after.ended other ≡ (if nat_eq conn other then Some true else get nat_cmp before.ended other)
