use Rattle.run_kept.proofs.SoundTurnLemmas.{sound_offer}
use Rattle.run_kept.proofs.sounding.offers.Goals as goal

pub returns : goal.returns
returns g c = λ r. sound_offer r
