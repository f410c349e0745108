use Rattle.run_kept.proofs.CallLemmas.{sound_comes}
use Rattle.run_kept.proofs.sounding.arrivals.Goals as goal

pub returns : goal.returns
returns g c = λ r. sound_comes r
