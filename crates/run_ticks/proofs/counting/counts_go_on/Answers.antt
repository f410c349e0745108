use Rattle.run_ticks.proofs.CountLemmas.{quiet_one, quiet_still}
use Rattle.run_ticks.proofs.counting.counts_go_on.Goals as goal

pub returns : goal.returns
returns g c = record {
  one = λ r. quiet_one r;
  still = λ r. quiet_still r;
}
