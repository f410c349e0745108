use Rattle.hub_core.proofs.All.{refl, goes_notes}
use Rattle.hub_core.proofs.hub.Hub.ended.Goals as goal

pub returns : goal.returns
returns g c = goes_notes c.leave.ensures refl refl c.requires.ties
