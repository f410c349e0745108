use Rattle.run_told.proofs.NotingLemmas.{noted_next}
use Rattle.run_told.proofs.telling.telling_is_noted.Goals as goal

pub returns : goal.returns
returns c = noted_next
