use Rattle.run_laws.proofs.Arriving.{at_none, accepted_follows}
use Rattle.run_laws.proofs.following.after_arriving.Goals as goal

pub returns : goal.returns
returns c = λ conn notes old new tells none g t w ended broken but after fails. accepted_follows conn notes old new tells (at_none conn notes old g t w ended broken none) after fails but
