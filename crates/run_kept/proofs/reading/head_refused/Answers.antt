use Rattle.run_kept.proofs.ReadingLemmas.{refused_kept}
use Rattle.run_kept.proofs.reading.head_refused.Goals as goal

pub returns : goal.returns
returns g c = λ r config table. refused_kept r config table
