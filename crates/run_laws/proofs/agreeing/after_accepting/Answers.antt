use Rattle.run_laws.proofs.AgreeLemmas.{agrees_accepted}
use Rattle.run_laws.proofs.agreeing.after_accepting.Goals as goal

pub returns : goal.returns
returns g c = λ r. agrees_accepted r
