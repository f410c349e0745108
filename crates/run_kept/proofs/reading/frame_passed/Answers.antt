use Rattle.run_kept.proofs.ReadingLemmas.{passed_kept}
use Rattle.run_kept.proofs.reading.frame_passed.Goals as goal

pub returns : goal.returns
returns g c = λ r config table. passed_kept r config table
