use Rattle.run_kept.proofs.ReadingLemmas.{failure_kept}
use Rattle.run_kept.proofs.reading.failure_told.Goals as goal

pub returns : goal.returns
returns g c = λ r config table. failure_kept r config table
