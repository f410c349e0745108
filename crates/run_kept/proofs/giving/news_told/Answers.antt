use Rattle.run_kept.proofs.GivingLemmas.{told_given}
use Rattle.run_kept.proofs.giving.news_told.Goals as goal

pub returns : goal.returns
returns g c = λ r f table ns after. told_given r f table ns after
