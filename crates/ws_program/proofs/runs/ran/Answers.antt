use Rattle.ws_program.proofs.EndLemmas.{ran_stopped, ran_never_spent, ran_never_failed}
use Rattle.ws_program.proofs.runs.ran.Goals as goal

pub returns-clause-stopped : goal.returns-clause-stopped
returns-clause-stopped c = λ net old count turns new runs. ran_stopped net new.follows new.few old turns new.tells new.none count runs

pub returns-clause-never_spent : goal.returns-clause-never_spent
returns-clause-never_spent c = λ net old turns new more runs. ran_never_spent net new.follows new.few old turns new.tells new.none more runs

pub returns-clause-never_failed : goal.returns-clause-never_failed
returns-clause-never_failed c = λ net old turns new runs. ran_never_failed net new.follows new.few old turns new.tells new.none runs
