use Rattle.topic_tree.proofs.All.{sym, without_absent, same_removed, changes_nothing, topics_of, without_topic}
use Rattle.topic_tree.proofs.topics.Topics.unsubscribe.Goals as goal

pub returns-then-not-has-clause-topics : goal.returns-then-not-has-clause-topics
returns-then-not-has-clause-topics c =
    rw (← c.self.view_is) (changes_nothing c.self.inside.subscriptions c.args.conn.0 (without_topic c.args.topic.now) (without_absent c.args.topic.now (topics_of c.self.inside.subscriptions c.args.conn.0) (sym c.if-not-has.ensures)))

pub invariant_of-self : goal.invariant_of-self
invariant_of-self c = same_removed c.self.inside.subscriptions c.remove-2.new.self c.self.inside.subscribers c.remove.new.self c.args.conn.0 c.self.invariant c.args.topic.now c.remove-2.ensures c.remove.ensures
