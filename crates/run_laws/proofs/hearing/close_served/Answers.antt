use Rattle.run_laws.proofs.HearLemmas.{frames_leave}
use Rattle.run_laws.proofs.hearing.close_served.Goals as goal

pub returns : goal.returns
returns c = frames_leave
