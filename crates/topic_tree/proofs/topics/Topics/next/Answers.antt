use Rattle.topic_tree.proofs.All.{◌∙◌, sym, arith, IfSome_then, is_pair, has_subscriber, refuted, next_same, none_then}
use Rattle.topic_tree.proofs.topics.Topics.next.Goals as goal

pub returns-then-topic-gt-MAX_OCTETS-clause-none : goal.returns-then-topic-gt-MAX_OCTETS-clause-none
returns-then-topic-gt-MAX_OCTETS-clause-none c = rw (← c.self.view_is)
    (λ other l. refuted (is_pair c.self.inside.subscriptions c.args.topic.now other) (λ e. let short = (c.self.invariant.topics other).short c.args.topic.now e in absurd (omega arith)))

pub returns-clause-some : goal.returns-clause-some
returns-clause-some c = rw (← c.self.view_is) (IfSome_then c.next.result c.next.ensures.some
    (λ conn. next_same (has_subscriber c.self.inside.subscribers c.args.topic.now) (is_pair c.self.inside.subscriptions c.args.topic.now) c.args.after.0 conn.0 (c.self.invariant.same c.args.topic.now)))

pub returns-clause-none : goal.returns-clause-none
returns-clause-none c = rw (← c.self.view_is) (none_then c.next.result (λ last other l. sym (c.self.invariant.same c.args.topic.now other) ∙ last other l) c.next.ensures.none)
