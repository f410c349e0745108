use Rattle.hub_core.proofs.All.{◌≡◌, ◌∙◌, [], true, refl, subst, HubState, Server, server, is_present, IsTable, table_of, data_frame, is_sender, is_pair, topics_of, IsLast, number_in, publishes_none, publishes_next, publishes_end, unless_kept, subscriber_present, zero_topics}
use Rattle.topic_tree.specs.Topics.{IsNext}
use Rattle.hub_core.proofs.hub.Hub.publish_to_each.Goals as goal

pub walk-init : goal.walk-init
walk-init g c = record {
  ties = c.requires.ties;
  named = refl;
  config = refl;
  table = subst (λ (z : HubState). IsTable (table_of z)) c.self.view_is c.self.invariant.table;
  so_far = publishes_none (number_in c.args.from) c.args.topic.now c.args.kind c.args.body.now (server c.args.self.now (g.N.Net.state c.args.out.now.net) (g.W.Watch.told c.args.out.now.watch))
      (subst (λ (z : HubState). topics_of z.pairs 0 ≡ []) c.self.view_is (zero_topics c.self.inside.table c.self.inside.topics c.self.inside.tellings c.self.invariant));
}

pub walk-preserved : goal.walk-preserved
walk-preserved g c =
    let conn = c.in-Some.conn.0 in
    let here : IsNext (is_pair c.self-in-walk.inside.topics c.args.topic.now) c.walk.after.0 conn = c.in-Some.ensures.some in
    let next : IsNext (is_pair c.walk.self.pairs c.args.topic.now) c.walk.after.0 conn = subst (λ (z : HubState). IsNext (is_pair z.pairs c.args.topic.now) c.walk.after.0 conn) c.self-in-walk.view_is here in
    let there : is_present c.walk.self conn ≡ true = subst (λ (z : HubState). is_present z conn ≡ true) c.self-in-walk.view_is
    (subscriber_present c.self-in-walk.inside.table c.self-in-walk.inside.topics c.self-in-walk.inside.tellings c.args.topic.now conn c.self-in-walk.invariant here.has) in
    let old : Server = server c.args.self.now (g.N.Net.state c.args.out.now.net) (g.W.Watch.told c.args.out.now.watch) in
    let mid : Server = server c.walk.self (g.N.Net.state c.walk.out.net) (g.W.Watch.told c.walk.out.watch) in
    let new : Server = server c.publish_to.new.self (g.N.Net.state c.publish_to.new.out.net) (g.W.Watch.told c.publish_to.new.out.watch) in
    let kept = unless_kept (is_sender (number_in c.args.from) conn) conn (data_frame c.args.kind c.args.body.now) mid new c.publish_to.ensures c.walk.invariant.ties c.walk.invariant.table in
    record {
      ties = kept.0;
      named = kept.1 ∙ c.walk.invariant.named;
      config = kept.2 ∙ c.walk.invariant.config;
      table = kept.3;
      so_far = publishes_next c.walk.after.0 conn (number_in c.args.from) c.args.topic.now c.args.kind c.args.body.now old mid new c.walk.invariant.so_far next there c.publish_to.ensures;
    }

pub returns : goal.returns
returns g c =
    let last : IsLast (is_pair c.walk.self.pairs c.args.topic.now) c.walk.after.0 = subst (λ (z : HubState). IsLast (is_pair z.pairs c.args.topic.now) c.walk.after.0) c.self-in-walk.view_is c.in_default.ensures.none in
    record {
      ties = c.walk.invariant.ties;
      proceeds = c.walk.invariant.so_far.proceeds;
      appends = publishes_end c.walk.after.0 (number_in c.args.from) c.args.topic.now c.args.kind c.args.body.now (server c.args.self.now (g.N.Net.state c.args.out.now.net) (g.W.Watch.told c.args.out.now.watch))
          (server c.walk.self (g.N.Net.state c.walk.out.net) (g.W.Watch.told c.walk.out.watch)) c.walk.invariant.so_far last;
      named = c.walk.invariant.named;
      table = c.walk.invariant.table;
    }
