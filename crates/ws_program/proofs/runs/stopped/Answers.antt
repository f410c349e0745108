use Rattle.ws_program.proofs.StopLemmas.{stop_done, stop_passed}
use Rattle.ws_program.proofs.runs.stopped.Goals as goal

pub returns-clause-done : goal.returns-clause-done
returns-clause-done c = λ net before follows ends. stop_done net before follows ends

pub returns-clause-passed : goal.returns-clause-passed
returns-clause-passed c = λ net before follows ends only. stop_passed net before follows ends only
