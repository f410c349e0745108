use Rattle.topic_tree.proofs.All.{◌∙◌, ap, sym, ◌++◌, ◌∷◌, [], Some, topics_of, changed}
use Rattle.topic_tree.proofs.subscriptions.Subscriptions.begin.Goals as goal

pub returns-in-Ok-clause-added : goal.returns-in-Ok-clause-added
returns-in-Ok-clause-added c =
    let none = ap (λ pairs. topics_of pairs c.args.conn.0) c.self.view_is ∙ c.requires.none in
    rw (← c.self.view_is) (changed c.self.inside.lists c.self.invariant (λ topics. topics ++ c.args.topic.now ∷ []) c.args.conn.0 c.insert.new.self (Some c.push.new.self) c.in-Ok.ensures.ordered c.in-Ok.ensures.updates
    (c.in_ok-push.ensures.pushed ∙ ap (λ topics. topics ++ c.args.topic.now ∷ []) (c.new-list.ensures ∙ sym none)))
