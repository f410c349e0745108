use Rattle.run_told.proofs.PassLemmas.{owed_aside, owed_call, owed_same, owed_steps, owed_then}
use Rattle.run_told.proofs.passing.owed_goes_on.Goals as goal

pub returns : goal.returns
returns c = record { same = owed_same; call = owed_call; steps = owed_steps; aside = owed_aside; «then» = owed_then }
