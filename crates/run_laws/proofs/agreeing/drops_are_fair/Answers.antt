use Rattle.run_laws.proofs.FairLemmas.{agrees_fair}
use Rattle.run_laws.proofs.agreeing.drops_are_fair.Goals as goal

pub returns : goal.returns
returns g c = λ r. agrees_fair r
