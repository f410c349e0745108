use Rattle.hub_core.proofs.All.{◌≡◌, ◌∙◌, None, refl, sym, rules, subst, HubState, server, Ties, standings_at, hub_of, IsTable, table_of, unsubscribe, without_topic, Standing, why_unsubscribe, order_refused, fits, topics_served}
use Rattle.hub_core.proofs.hub.Hub.serve_unsubscribe.Goals as goal

pub returns-in-Some : goal.returns-in-Some
returns-in-Some g c admits =
    let table : IsTable (table_of c.args.self.now) = search rules in
    order_refused admits c.args.conn.0 c.args.number (unsubscribe c.args.topic.now) c.in-Some.why refl c.unserved.ensures table (sym c.topic_refusal.ensures ∙ c.in-Some.is)

pub returns-in-None : goal.returns-in-None
returns-in-None g c admits =
    let own : HubState → Standing = λ z. standings_at z c.args.conn.0 in
    let none : why_unsubscribe (own (hub_of c.self.inside.table c.self.inside.topics c.self.inside.tellings)).phase c.args.topic.now ≡ None = subst (λ (z : HubState). why_unsubscribe (own z).phase c.args.topic.now ≡ None) (sym c.self.view_is) (sym c.topic_refusal.ensures ∙ c.in-None.is) in
    let ties : Ties (server (hub_of c.self.inside.table c.self.inside.topics c.self.inside.tellings) (g.N.Net.state c.args.out.now.net) (g.W.Watch.told c.args.out.now.watch)) = subst (λ (z : HubState). Ties (server z (g.N.Net.state c.args.out.now.net) (g.W.Watch.told c.args.out.now.watch))) (sym c.self.view_is) c.requires.ties in
    rw (← c.self.view_is) (topics_served admits c.self.inside.table c.self.inside.topics c.unsubscribe.new.self c.self.inside.tellings (g.N.Net.state c.args.out.now.net) (g.W.Watch.told c.args.out.now.watch) c.args.conn.0 c.args.number (unsubscribe c.args.topic.now) (without_topic c.args.topic.now)
    c.self.invariant (fits (own (hub_of c.self.inside.table c.self.inside.topics c.self.inside.tellings)) c.args.topic.now none).0 c.unsubscribe.ensures.topics (λ d x. refl) refl none ties)
