use Rattle.run_kept.proofs.ArrivingLemmas.{kept_arrived}
use Rattle.run_kept.proofs.arriving.arrived.Goals as goal

pub returns : goal.returns
returns g c = λ r. kept_arrived r
