use Rattle.topic_tree.proofs.All.{◌∙◌, ap, not, ◌&&◌, nat_eq, List, ℕ, has_topic, has_subscriber, same_dropped}
use Rattle.topic_tree.proofs.topics.Topics.drop_conn.Goals as goal

pub invariant_of-self : goal.invariant_of-self
invariant_of-self c = same_dropped c.self.inside.subscriptions c.take-topics.new.self c.self.inside.subscribers c.remove_each.new.subscribers c.args.conn.0 c.self.invariant c.take-topics.ensures.others
    (λ t d. c.remove_each.ensures t d ∙ ap (λ (z : List (List ℕ)). not (nat_eq c.args.conn.0 d && has_topic t z) && has_subscriber c.self.inside.subscribers t d) c.take-topics.ensures.value)
