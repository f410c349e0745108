use Rattle.topic_tree.proofs.OrderLemmas.{removed}
use Rattle.topic_tree.proofs.subscribers.Subscribers.remove.Goals as goal

pub returns : goal.returns
returns c = removed c.args.self.now.all c.remove.new.self c.args.topic.now c.args.conn.0 c.subscriber_of.result c.subscriber_of.ensures c.remove.ensures.updates
