use Rattle.run_meaning.proofs.StepLemmas.{ends_noted}
use Rattle.run_meaning.proofs.step_laws.topics_end.Goals as goal

pub returns : goal.returns
returns g c = λ s d n l ends. ends_noted s d n l ends
