use Rattle.hub_core.proofs.All.{◌∙◌, refl, sym, rules, server, IsTable, table_of, TopicsEnd, close, order_refused, order_closed, open_alone}
use Rattle.hub_core.proofs.hub.Hub.serve_close.Goals as goal

pub returns-in-Some : goal.returns-in-Some
returns-in-Some g c admits =
    let table : IsTable (table_of c.args.self.now) = search rules in
    order_refused admits c.args.conn.0 c.args.number (close c.args.code c.args.reason.now) c.in-Some.why refl c.unserved.ensures table (sym c.close_refusal.ensures ∙ c.in-Some.is)

pub returns-in-None : goal.returns-in-None
returns-in-None g c admits =
    let topics : TopicsEnd (server c.args.self.now (g.N.Net.state c.args.out.now.net) (g.W.Watch.told c.args.out.now.watch)) = rw (← c.self.view_is) (open_alone c.self.inside.table c.self.inside.topics c.self.inside.tellings (g.N.Net.state c.args.out.now.net) (g.W.Watch.told c.args.out.now.watch) c.self.invariant) in
    order_closed admits c.args.conn.0 c.args.number c.args.code c.args.reason.now (server c.args.self.now (g.N.Net.state c.args.out.now.net) (g.W.Watch.told c.args.out.now.watch)) (server c.close_now.new.self (g.N.Net.state c.close_now.new.out.net) (g.W.Watch.told c.close_now.new.out.watch))
    (sym c.close_refusal.ensures ∙ c.in-None.is) topics c.close_now.ensures
