use Rattle.run_ticks.proofs.TimelyLemmas.{timely_none, timely_other, timely_tick}
use Rattle.run_ticks.proofs.counting.timely_goes_on.Goals as goal

pub returns : goal.returns
returns g c = record {
  first = λ r. timely_none r;
  other = λ r. timely_other r;
  tick = λ r. timely_tick r;
}
