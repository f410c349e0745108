use Rattle.hub_core.proofs.Below.{◌≡◌, ◌-◌, server, Ties}
use Rattle.hub_core.proofs.TurnLemmas.{Finishing}
use Rattle.hub_core.proofs.hub.Hub.end_turn.Given as goal

abbrev pub invariant-walk : goal.invariant-walk
invariant-walk g l = record {
  ties : Ties (server l.self (g.N.Net.state l.out.net) (g.W.Watch.told l.out.watch));
  named : l.self.named ≡ l.fn.self.named;
  finishing : Finishing l.after.0 (server l.fn.self (g.N.Net.state l.fn.out.net) (g.W.Watch.told l.fn.out.watch)) (server l.self (g.N.Net.state l.out.net) (g.W.Watch.told l.out.watch));
}

abbrev pub decreases-walk : goal.decreases-walk
decreases-walk g l = l.self.named - l.after.0
