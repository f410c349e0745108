use Rattle.run_kept.proofs.RightLemmas.{kept_right_there}
use Rattle.run_kept.proofs.turning.carried_right.Goals as goal

pub returns : goal.returns
returns g c = λ r. kept_right_there r
