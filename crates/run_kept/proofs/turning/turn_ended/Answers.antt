use Rattle.run_kept.proofs.TurningLemmas.{kept_turned}
use Rattle.run_kept.proofs.turning.turn_ended.Goals as goal

pub returns : goal.returns
returns g c = λ r. kept_turned r
