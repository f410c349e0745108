use Rattle.run_kept.proofs.TurningLemmas.{kept_offered}
use Rattle.run_kept.proofs.turning.offered.Goals as goal

pub returns : goal.returns
returns g c = λ r. kept_offered r
