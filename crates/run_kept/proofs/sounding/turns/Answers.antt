use Rattle.run_kept.proofs.SoundTurnLemmas.{sound_turn}
use Rattle.run_kept.proofs.sounding.turns.Goals as goal

pub returns : goal.returns
returns g c = λ r. sound_turn r
