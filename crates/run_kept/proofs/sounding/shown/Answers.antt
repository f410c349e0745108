use Rattle.run_kept.proofs.KnownLemmas.{shows_sound, known_world}
use Rattle.run_kept.proofs.sounding.shown.Goals as goal

pub returns : goal.returns
returns g c = record { hub = λ r. shows_sound r; world = λ r. known_world r }
