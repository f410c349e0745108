use Rattle.topic_tree.proofs.All.{◌∙◌, ap, [], refl, unwrap_or, found, changed}
use Rattle.topic_tree.proofs.subscriptions.Subscriptions.take.Goals as goal

pub returns-in-Some-clause-value : goal.returns-in-Some-clause-value
returns-in-Some-clause-value c = rw (← c.self.view_is) (ap (λ o. unwrap_or o []) c.in-Some.ensures.value ∙ found c.self.inside.lists c.self.invariant c.args.conn.0)

pub returns-clause-value : goal.returns-clause-value
returns-clause-value c = rw (← c.self.view_is) (c.new.ensures ∙ ap (λ o. unwrap_or o []) c.in_default.ensures.value ∙ found c.self.inside.lists c.self.invariant c.args.conn.0)

pub returns-in-Some-clause-others : goal.returns-in-Some-clause-others
returns-in-Some-clause-others c = rw (← c.self.view_is) (changed c.self.inside.lists c.self.invariant (λ _. []) c.args.conn.0 c.remove.new.self _ c.remove.ensures.ordered c.remove.ensures.updates refl)

pub returns-clause-others : goal.returns-clause-others
returns-clause-others c = rw (← c.self.view_is) (changed c.self.inside.lists c.self.invariant (λ _. []) c.args.conn.0 c.remove.new.self _ c.remove.ensures.ordered c.remove.ensures.updates refl)
