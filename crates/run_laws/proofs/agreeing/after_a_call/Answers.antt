use Rattle.run_laws.proofs.All.{agrees_call, at_steps}
use Rattle.run_laws.proofs.agreeing.after_a_call.Goals as goal

pub returns : goal.returns
returns g c = record { notes = λ r. agrees_call r; steps = λ r. at_steps r }
