use Rattle.hub_core.proofs.All.{◌∙◌, refl, sym, rules, server, IsTable, table_of, TopicsEnd, publish, order_refused, order_published, open_alone}
use Rattle.hub_core.proofs.hub.Hub.serve_publish.Goals as goal

pub returns-in-Some : goal.returns-in-Some
returns-in-Some g c admits =
    let table : IsTable (table_of c.args.self.now) = search rules in
    order_refused admits c.args.conn.0 c.args.number (publish c.args.topic.now c.args.kind c.args.body.now) c.in-Some.why refl c.unserved.ensures table (sym c.publish_refusal.ensures ∙ c.in-Some.is)

pub returns-in-None : goal.returns-in-None
returns-in-None g c admits =
    let topics : TopicsEnd (server c.args.self.now (g.N.Net.state c.args.out.now.net) (g.W.Watch.told c.args.out.now.watch)) = rw (← c.self.view_is) (open_alone c.self.inside.table c.self.inside.topics c.self.inside.tellings (g.N.Net.state c.args.out.now.net) (g.W.Watch.told c.args.out.now.watch) c.self.invariant) in
    order_published admits c.args.conn.0 c.args.number c.args.topic.now c.args.kind c.args.body.now (server c.args.self.now (g.N.Net.state c.args.out.now.net) (g.W.Watch.told c.args.out.now.watch)) (server c.publish_to_each.new.self (g.N.Net.state c.publish_to_each.new.out.net) (g.W.Watch.told c.publish_to_each.new.out.watch))
    (sym c.publish_refusal.ensures ∙ c.in-None.is) topics c.publish_to_each.ensures
