use Rattle.run_kept.proofs.CallLemmas.{sound_octets, sound_time}
use Rattle.run_kept.proofs.sounding.from_outside.Goals as goal

pub returns : goal.returns
returns g c = record { octets = λ r f. sound_octets r f; time = λ r f. sound_time r f }
