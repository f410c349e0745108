use Rattle.topic_tree.proofs.OrderLemmas.{added}
use Rattle.topic_tree.proofs.subscribers.Subscribers.add.Goals as goal

pub returns-in-Ok-clause-added : goal.returns-in-Ok-clause-added
returns-in-Ok-clause-added c = added c.args.self.now.all c.insert.new.self c.args.topic.now c.args.conn.0 c.subscriber_of.result c.subscriber_of.ensures c.in-Ok.ensures.updates
