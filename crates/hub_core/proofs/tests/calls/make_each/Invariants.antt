use Rattle.hub_core.proofs.Below.{Ties, at}
use Rattle.hub_core.proofs.tests.calls.make_each.Given as goal

abbrev pub invariant-walk : goal.invariant-walk
invariant-walk g l = Ties (at g.N.Net g.W.Watch l.hub l.out)
