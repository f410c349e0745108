use Rattle.run_kept.proofs.ReadingLemmas.{given_kept}
use Rattle.run_kept.proofs.reading.given_some.Goals as goal

pub returns : goal.returns
returns g c = λ r config table. given_kept r config table
