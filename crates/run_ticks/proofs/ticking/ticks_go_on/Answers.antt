use Rattle.run_ticks.proofs.TickLemmas.{ticked_call, ticked_counted, ticked_first, ticked_orders, ticked_proceed, ticked_tick}
use Rattle.run_ticks.proofs.ticking.ticks_go_on.Goals as goal

pub returns : goal.returns
returns g c = record {
  first = λ r. ticked_first r;
  call = λ r. ticked_call r;
  proceeds = λ r. ticked_proceed r;
  orders = λ r. ticked_orders r;
  counted = λ r. ticked_counted r;
  tick = λ r. ticked_tick r;
}
