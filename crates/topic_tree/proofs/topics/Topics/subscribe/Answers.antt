use Rattle.topic_tree.proofs.All.{arith, sym, same_added, went_well}
use Rattle.topic_tree.proofs.topics.Topics.subscribe.Goals as goal

pub invariant_of-self-else-is_err-2 : goal.invariant_of-self-else-is_err-2
invariant_of-self-else-is_err-2 c = same_added c.self.inside.subscriptions c.add-2.new.self c.self.inside.subscribers c.add.new.self c.args.conn.0 c.self.invariant c.args.topic.now c.requires.1 (omega (arith, c.count.ensures, c.if-count-ge-MAX_TOPICS.false)) (sym c.if-has.ensures)
    (went_well c.add-2.result c.if-is_err-2.ensures.value c.add-2.ensures.added) (went_well c.add.result c.if-is_err.ensures.value c.add.ensures.added)
