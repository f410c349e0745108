use Rattle.run_laws.proofs.Telling.{next_but}
use Rattle.run_laws.proofs.following.after_asking.Goals as goal

pub returns : goal.returns
returns c = next_but
