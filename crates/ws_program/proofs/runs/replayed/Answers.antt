use Rattle.ws_program.proofs.ReplayedLemmas.{replay_all}
use Rattle.ws_program.proofs.runs.replayed.Goals as goal

pub returns : goal.returns
returns c = λ admits f t ns net held replies follows whole done right throughout settled. replay_all admits f t ns net held replies right follows whole done settled throughout
