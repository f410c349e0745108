-- For how long a connection is quiet, and what one more tick makes due.
use Rattle.std.specs.Prelude.{ℕ, ◌+◌, ◌-◌, ◌^◌, min, Bool, true, false, ◌&&◌, ◌||◌, Option, Some, None, is_none, nat_eq}
use Rattle.std.specs.Option.{option_map}
use Rattle.idle_close.specs.declared.quiet.Due.{Due}
use Rattle.idle_close.specs.declared.quiet.Due.TheVariants.{Ping, Gone}

pub record QuietValue : Type 0 where
  -- the quiet ticks after which a ping is due, and those after which the connection's end is
  pub ping_after : ℕ
  pub idle : ℕ
  -- the ticks since it began to leave after which its end is due
  pub leave : ℕ
  -- the quiet ticks: those since it was accepted, or since octets of it were read last before it began to leave
  pub ticks : ℕ
  -- the ticks since it began to leave, if it did
  pub leaving : Option ℕ

-- as a connection is accepted
abbrev pub new_quiet : ℕ → ℕ → ℕ → QuietValue
new_quiet ping_after idle leave = record { ping_after = ping_after; idle = idle; leave = leave; ticks = 0; leaving = None }

-- octets of it were read: its quiet ticks are counted again, unless it is leaving
abbrev pub heard_by : Option ℕ → ℕ → ℕ
heard_by None ticks = 0
heard_by (Some count) ticks = ticks

abbrev pub after_heard : QuietValue → QuietValue
after_heard quiet = record quiet { ticks = heard_by quiet.leaving quiet.ticks }

-- it begins to leave, unless it did so before
abbrev pub begun : Option ℕ → Option ℕ
begun None = Some 0
begun (Some count) = Some count

abbrev pub after_leaving : QuietValue → QuietValue
after_leaving quiet = record quiet { leaving = begun quiet.leaving }

-- one more tick; a count stands still at 2 ^ 64 - 1
abbrev pub one_more : ℕ → ℕ
one_more count = min (count + 1) (2 ^ 64 - 1)

abbrev pub after_tick : QuietValue → QuietValue
after_tick quiet = record quiet { ticks = one_more quiet.ticks; leaving = option_map one_more quiet.leaving }

-- there is a count, and one more tick makes it this number
abbrev pub becomes : Option ℕ → ℕ → Bool
becomes None number = false
becomes (Some count) number = nat_eq (count + 1) number

-- one more tick makes a ping due, which can be sent or not
abbrev pub is_ping_due : Bool → QuietValue → Bool
is_ping_due can_ping quiet = can_ping && is_none quiet.leaving && nat_eq (quiet.ticks + 1) quiet.ping_after

-- one more tick makes the connection's end due
abbrev pub is_end_due : QuietValue → Bool
is_end_due quiet = nat_eq (quiet.ticks + 1) quiet.idle || becomes quiet.leaving quiet.leave

abbrev pub is_ping : Due → Bool
is_ping Ping = true
is_ping _ = false

abbrev pub is_gone : Due → Bool
is_gone Gone = true
is_gone _ = false
