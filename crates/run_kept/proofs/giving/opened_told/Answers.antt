use Rattle.run_kept.proofs.GivingLemmas.{opened_given}
use Rattle.run_kept.proofs.giving.opened_told.Goals as goal

pub returns : goal.returns
returns g c = λ r f table ns after. opened_given r f table ns after
