use Rattle.run_laws.proofs.AgreeLemmas.{agrees_due, agrees_told, agrees_untold}
use Rattle.run_laws.proofs.agreeing.what_is_due.Goals as goal

pub returns : goal.returns
returns g c = record { due = agrees_due; told = agrees_told; others = agrees_untold }
