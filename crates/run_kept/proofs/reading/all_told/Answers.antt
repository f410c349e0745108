use Rattle.run_kept.proofs.ReadingLemmas.{stepped_kept}
use Rattle.run_kept.proofs.reading.all_told.Goals as goal

pub returns : goal.returns
returns g c = λ r config table. stepped_kept r config table
