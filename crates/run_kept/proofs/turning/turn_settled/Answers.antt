use Rattle.run_kept.proofs.TurnLemmas.{turn_settled_there}
use Rattle.run_kept.proofs.turning.turn_settled.Goals as goal

pub returns : goal.returns
returns g c = λ answer a b net rest next ends r. turn_settled_there answer a b net rest next ends r
