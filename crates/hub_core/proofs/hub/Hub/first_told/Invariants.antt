use Rattle.std.specs.Prelude.{◌-◌, ◌^◌, ◌≤◌}
use Rattle.hub_core.proofs.ToldLemmas.{NoNewsUpTo}
use Rattle.hub_core.proofs.hub.Hub.first_told.Given as goal

abbrev pub invariant-walk : goal.invariant-walk
invariant-walk l = record {
  further : l.fn.after.0 ≤ l.place.0;
  none : NoNewsUpTo l.self l.fn.after.0 l.place.0;
}

abbrev pub decreases-walk : goal.decreases-walk
decreases-walk l = 2 ^ 64 - l.place.0
