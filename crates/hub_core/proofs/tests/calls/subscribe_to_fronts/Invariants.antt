use Rattle.hub_core.proofs.Below.{Ties, at}
use Rattle.hub_core.proofs.tests.calls.subscribe_to_fronts.Given as goal

abbrev pub invariant-walk : goal.invariant-walk
invariant-walk g l = Ties (at g.N.Net g.W.Watch l.hub l.out)
