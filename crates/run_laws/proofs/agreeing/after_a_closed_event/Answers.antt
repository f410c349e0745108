use Rattle.run_laws.proofs.All.{agrees_closed, due_taken}
use Rattle.run_laws.proofs.agreeing.after_a_closed_event.Goals as goal

pub returns : goal.returns
returns g c = record { taken = due_taken; noted = λ r. agrees_closed r }
