use Rattle.run_kept.proofs.CallLemmas.{sound_closed}
use Rattle.run_kept.proofs.sounding.closed_event.Goals as goal

pub returns : goal.returns
returns g c = λ r f. sound_closed r f
