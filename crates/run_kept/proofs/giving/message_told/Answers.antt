use Rattle.run_kept.proofs.GivingLemmas.{message_given}
use Rattle.run_kept.proofs.giving.message_told.Goals as goal

pub returns : goal.returns
returns g c = λ r f table ns after. message_given r f table ns after
