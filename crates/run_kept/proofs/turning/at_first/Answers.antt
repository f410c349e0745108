use Rattle.run_kept.proofs.TurningLemmas.{kept_first}
use Rattle.run_kept.proofs.turning.at_first.Goals as goal

pub returns : goal.returns
returns g c = λ r. kept_first r
