use Rattle.run_laws.proofs.CountLemmas.{agrees_entries, new_above}
use Rattle.run_laws.proofs.agreeing.entries_agree.Goals as goal

pub returns : goal.returns
returns g c = record { number = λ r. agrees_entries r; unaccepted = λ r. new_above r }
