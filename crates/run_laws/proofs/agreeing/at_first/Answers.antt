use Rattle.run_laws.proofs.CountLemmas.{agrees_first}
use Rattle.run_laws.proofs.agreeing.at_first.Goals as goal

pub returns : goal.returns
returns g c = λ r. agrees_first r
