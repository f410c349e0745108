use Rattle.loop_runner.proofs.StepLemmas.{steps_served}
use Rattle.loop_runner.proofs.giving.answer.Goals as goal

pub returns-clause-steps : goal.returns-clause-steps
returns-clause-steps g c = steps_served _ _ _ _ _ c.perform.ensures.serves c.perform.ensures.ties c.perform.ensures.table c.perform.ensures.named
