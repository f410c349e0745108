use Rattle.run_kept.proofs.GivingLemmas.{closed_given}
use Rattle.run_kept.proofs.giving.closed_told.Goals as goal

pub returns : goal.returns
returns g c = λ r f table ns after. closed_given r f table ns after
