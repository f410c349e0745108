use Rattle.loop_runner.proofs.All.{beginning, lived_first}
use Rattle.loop_runner.proofs.starting.lived_at_first.Goals as goal

pub returns : goal.returns
returns g c = λ admits start config table s none. lived_first (beginning g.H.Handler admits start config table) s none
