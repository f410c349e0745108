use Rattle.hub_core.proofs.Below.{◌≡◌, ◌≤◌, ◌-◌, ◌^◌, suc, receives, count_below, number_in}
use Rattle.hub_core.proofs.hub.Hub.receivers.Given as goal

abbrev pub invariant-walk : goal.invariant-walk
invariant-walk l = record {
  few : l.count ≤ l.after.0;
  below : l.after.0 ≤ l.self.named;
  count : l.count ≡ count_below (receives l.self.pairs (number_in l.from) l.topic) (suc l.after.0);
}

abbrev pub decreases-walk : goal.decreases-walk
decreases-walk l = 2 ^ 64 - l.after.0
