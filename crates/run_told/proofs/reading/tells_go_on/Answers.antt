use Rattle.run_told.proofs.TellLemmas.{tell_turn, tell_within}
use Rattle.run_told.proofs.reading.tells_go_on.Goals as goal

pub returns : goal.returns
returns g c = record { within = λ r. tell_within r; turn = λ r. tell_turn r }
