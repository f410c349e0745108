use Rattle.hub_core.proofs.Below.{◌-◌, ◌^◌, SettlesUpTo}
use Rattle.hub_core.proofs.rows.settle_rows.Given as goal

abbrev pub invariant-walk : goal.invariant-walk
invariant-walk l = record { settles : SettlesUpTo l.after.0 l.table.entries l.fn.tellings l.tellings }

abbrev pub decreases-walk : goal.decreases-walk
decreases-walk l = 2 ^ 64 - l.after.0
