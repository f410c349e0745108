use Rattle.run_told.proofs.TellingLemmas.{holds_as, told_call, told_end, told_first, told_next, told_orders, told_proceed}
use Rattle.run_told.proofs.telling.told_goes_on.Goals as goal

pub returns : goal.returns
returns g c = record {
  first = λ r. told_first r;
  call = λ r. told_call r;
  proceeds = λ r. told_proceed r;
  orders = λ r. told_orders r;
  next = λ r. told_next r;
  ends = λ r. told_end r;
  holds = λ r. holds_as r;
}
