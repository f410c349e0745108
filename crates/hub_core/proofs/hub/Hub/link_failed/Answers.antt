use Rattle.hub_core.proofs.LeaveLemmas.{goes_loses}
use Rattle.hub_core.proofs.hub.Hub.link_failed.Goals as goal

pub returns : goal.returns
returns g c = goes_loses c.leave.ensures c.requires.ties
