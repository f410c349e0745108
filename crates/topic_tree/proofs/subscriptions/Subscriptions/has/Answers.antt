use Rattle.topic_tree.proofs.All.{◌∙◌, ap, [], unwrap_or, has_topic, found}
use Rattle.topic_tree.proofs.subscriptions.Subscriptions.has.Goals as goal

pub returns-in-Some : goal.returns-in-Some
returns-in-Some c = let is = found c.self.inside.lists c.self.invariant c.args.conn.0 in rw (← c.self.view_is) (c.has.ensures ∙ ap (λ o. has_topic c.args.topic.now (unwrap_or o [])) c.in-Some.ensures.value ∙ ap (has_topic c.args.topic.now) is)

pub returns-in-None : goal.returns-in-None
returns-in-None c = let is = found c.self.inside.lists c.self.invariant c.args.conn.0 in rw (← c.self.view_is) (ap (λ o. has_topic c.args.topic.now (unwrap_or o [])) c.in-None.ensures.value ∙ ap (has_topic c.args.topic.now) is)
