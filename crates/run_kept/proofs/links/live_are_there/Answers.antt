use Rattle.run_kept.proofs.EndLemmas.{there_first, there_same, there_after, there_does, there_arrived, there_shut}
use Rattle.run_kept.proofs.links.live_are_there.Goals as goal

pub returns : goal.returns
returns c = record { first = there_first; net = there_same; call = there_after; steps = there_does; accepted = there_arrived; turned_away = there_shut }
