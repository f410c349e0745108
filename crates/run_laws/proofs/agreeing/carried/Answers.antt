use Rattle.run_laws.proofs.CarryLemmas.{agrees_carried}
use Rattle.run_laws.proofs.agreeing.carried.Goals as goal

pub returns : goal.returns
returns g c = λ r. agrees_carried r
