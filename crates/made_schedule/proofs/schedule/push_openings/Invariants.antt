use Rattle.made_schedule.proofs.Below.{◌≡◌, ◌++◌, openings}
use Rattle.made_schedule.proofs.schedule.push_openings.Given as goal

abbrev pub invariant-connections : goal.invariant-connections
invariant-connections l = l.schedule ≡ l.fn.schedule ++ openings l.before
