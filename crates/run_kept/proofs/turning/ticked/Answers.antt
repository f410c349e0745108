use Rattle.run_kept.proofs.TurningLemmas.{kept_tick}
use Rattle.run_kept.proofs.turning.ticked.Goals as goal

pub returns : goal.returns
returns g c = λ r. kept_tick r
