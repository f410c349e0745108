use Rattle.topic_tree.proofs.All.{◌∙◌, ap, [], length, unwrap_or, found}
use Rattle.topic_tree.proofs.subscriptions.Subscriptions.count.Goals as goal

pub returns-in-Some : goal.returns-in-Some
returns-in-Some c = let is = found c.self.inside.lists c.self.invariant c.args.conn.0 in rw (← c.self.view_is) (c.count.ensures ∙ ap (λ o. length (unwrap_or o [])) c.in-Some.ensures.value ∙ ap (length) is)

pub returns-in-None : goal.returns-in-None
returns-in-None c = let is = found c.self.inside.lists c.self.invariant c.args.conn.0 in rw (← c.self.view_is) (ap (λ o. length (unwrap_or o [])) c.in-None.ensures.value ∙ ap (length) is)
