use Rattle.loop_runner.proofs.All.{refl, Every, steps_then, steps_noted}
use Rattle.loop_runner.proofs.frames.give_message.Goals as goal

pub returns-clause-steps : goal.returns-clause-steps
returns-clause-steps g c = steps_then Every _ _ _ (steps_noted _ _ _ _ _ c.note.ensures (λ d. refl) refl) c.give.ensures.steps
