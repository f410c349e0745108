use Rattle.run_meaning.proofs.StepLemmas.{shown_steps, items_steps}
use Rattle.run_meaning.proofs.step_laws.lines_of_steps.Goals as goal

pub returns : goal.returns
returns g c = record {
  shown = λ s d xs l e. shown_steps s d xs l e;
  items = λ s d xs l e. items_steps s d xs l e;
}
