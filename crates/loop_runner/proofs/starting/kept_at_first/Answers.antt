use Rattle.loop_runner.proofs.All.{beginning, kept_at_first}
use Rattle.loop_runner.proofs.starting.kept_at_first.Goals as goal

pub returns : goal.returns
returns g c = λ admits start config table s now views. kept_at_first (beginning g.H.Handler admits start config table) s now views
