use Rattle.run_kept.proofs.CallLemmas.{sound_call, sound_proceed}
use Rattle.run_kept.proofs.sounding.calls.Goals as goal

pub returns : goal.returns
returns g c = record { call = λ r. sound_call r; proceeds = λ r. sound_proceed r }
