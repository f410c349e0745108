use Rattle.run_told.proofs.PassLemmas.{all_told}
use Rattle.run_told.proofs.passing.all_were_told.Goals as goal

pub returns : goal.returns
returns g c = λ r. all_told r
