use Rattle.hub_core.proofs.Below.{◌≡◌, ◌-◌, ◌^◌, server, Ties, IsTable, table_of, number_in}
use Rattle.hub_core.proofs.PublishLemmas.{PublishesTo}
use Rattle.hub_core.proofs.hub.Hub.publish_to_each.Given as goal

abbrev pub invariant-walk : goal.invariant-walk
invariant-walk g l = record {
  ties : Ties (server l.self (g.N.Net.state l.out.net) (g.W.Watch.told l.out.watch));
  named : l.self.named ≡ l.fn.self.named;
  config : l.self.config ≡ l.fn.self.config;
  table : IsTable (table_of l.self);
  so_far : PublishesTo l.after.0 (number_in l.from) l.topic l.kind l.body (server l.fn.self (g.N.Net.state l.fn.out.net) (g.W.Watch.told l.fn.out.watch)) (server l.self (g.N.Net.state l.out.net) (g.W.Watch.told l.out.watch));
}

abbrev pub decreases-walk : goal.decreases-walk
decreases-walk g l = 2 ^ 64 - l.after.0
