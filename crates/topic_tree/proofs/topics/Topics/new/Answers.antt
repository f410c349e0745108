use Rattle.topic_tree.proofs.SameLemmas.{same_at_first}
use Rattle.topic_tree.proofs.topics.Topics.new.Goals as goal

pub invariant_of-result : goal.invariant_of-result
invariant_of-result c = same_at_first c.new.result c.new-2.result c.new.ensures c.new-2.ensures
