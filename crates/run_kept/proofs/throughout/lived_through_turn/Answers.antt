use Rattle.run_kept.proofs.ThroughoutLemmas.{lived_through_turn}
use Rattle.run_kept.proofs.throughout.lived_through_turn.Goals as goal

pub returns : goal.returns
returns g c = λ meaning config table notes later front old new between answer now held before right longer none rest passed ends lived.
    lived_through_turn meaning config table notes later front old new between answer now held before right longer none rest passed ends lived
