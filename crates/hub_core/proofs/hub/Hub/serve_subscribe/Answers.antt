use Rattle.hub_core.proofs.All.{◌∙◌, admits, refl, sym, rules, standings_at, IsTable, table_of, subscribe, order_refused, subscribe_refused}
use Rattle.hub_core.proofs.hub.Hub.serve_subscribe.Goals as goal

pub returns-in-Some : goal.returns-in-Some
returns-in-Some g c =
    let table : IsTable (table_of c.args.self.now) = search rules in
    order_refused (admits c.args.guard.now.rule) c.args.conn.0 c.args.number (subscribe c.args.topic.now) c.in-Some.why refl c.unserved.ensures table
    (subscribe_refused (admits c.args.guard.now.rule) (standings_at c.args.self.now c.args.conn.0) c.args.topic.now c.in-Some.why (sym c.topic_refusal.ensures ∙ c.in-Some.is))
