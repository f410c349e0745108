use Rattle.run_kept.proofs.CallLemmas.{sound_serves}
use Rattle.run_kept.proofs.sounding.orders.Goals as goal

pub returns : goal.returns
returns g c = λ r. sound_serves r
