use Rattle.run_kept.proofs.ReadingLemmas.{close_kept}
use Rattle.run_kept.proofs.reading.close_told.Goals as goal

pub returns : goal.returns
returns g c = λ r config table. close_kept r config table
