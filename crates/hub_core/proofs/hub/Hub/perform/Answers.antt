use Rattle.hub_core.proofs.All.{rules, ◌∙◌, server, admits, serves_seen, order_value}
use Rattle.hub_core.proofs.hub.Hub.perform.Goals as goal

pub walk-preserved : goal.walk-preserved
walk-preserved g c = record {
  ties = c.serve.ensures.ties;
  named = c.serve.ensures.named ∙ c.walk.invariant.named;
  table = c.serve.ensures.table;
  serves = serves_seen order_value (admits c.args.guard.now.rule) c.args.conn.0 c.walk.number c.args.orders.now.items c.deref.result.now _ (server c.args.self.now (g.N.Net.state c.args.out.now.net) (g.W.Watch.told c.args.out.now.watch)) (server c.walk.self (g.N.Net.state c.walk.out.net) (g.W.Watch.told c.walk.out.watch)) (server c.serve.new.self (g.N.Net.state c.serve.new.out.net) (g.W.Watch.told c.serve.new.out.watch))
      (search rules) (search rules) c.walk.invariant.serves c.serve.ensures.serves;
}
