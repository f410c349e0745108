use Rattle.hub_core.proofs.Below.{◌≡◌, take, order_values, admits, server, Ties, IsTable, table_of, ServesAll}
use Rattle.hub_core.proofs.hub.Hub.perform.Given as goal

abbrev pub invariant-walk : goal.invariant-walk
invariant-walk g l = record {
  ties : Ties (server l.self (g.N.Net.state l.out.net) (g.W.Watch.told l.out.watch));
  named : l.self.named ≡ l.fn.self.named;
  table : IsTable (table_of l.self);
  serves : ServesAll l.fn.self.config (admits l.guard.rule) l.conn.0 0 (order_values (take l.number l.orders.items)) (server l.fn.self (g.N.Net.state l.fn.out.net) (g.W.Watch.told l.fn.out.watch)) (server l.self (g.N.Net.state l.out.net) (g.W.Watch.told l.out.watch));
}
