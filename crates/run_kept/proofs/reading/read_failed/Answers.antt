use Rattle.run_kept.proofs.ReadingLemmas.{failed_kept}
use Rattle.run_kept.proofs.reading.read_failed.Goals as goal

pub returns : goal.returns
returns g c = λ r config table. failed_kept r config table
