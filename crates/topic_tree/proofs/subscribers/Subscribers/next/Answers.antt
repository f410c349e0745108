use Rattle.topic_tree.proofs.All.{sym, none_left, of_another, next_is}
use Rattle.topic_tree.proofs.subscribers.Subscribers.next.Goals as goal

pub returns-in_default-clause-none : goal.returns-in_default-clause-none
returns-in_default-clause-none c =
    none_left c.args.self.now.all c.args.topic.now c.args.after.0 c.subscriber_of.result c.subscriber_of.ensures c.range.result (c.range.ensures.in_range tt) c.in_default.ensures.steps.0

pub returns-then-not-is_named-clause-none : goal.returns-then-not-is_named-clause-none
returns-then-not-is_named-clause-none c =
    of_another c.args.self.now.all c.args.topic.now c.args.after.0 c.subscriber_of.result c.subscriber_of.ensures c.range.result (c.range.ensures.in_range tt)
    c.in-Some.following.now.topic.items c.in-Some.following.now.conn c.next.new.self c.in-Some.ensures.steps (sym c.if-not-is_named.ensures)

pub returns-clause-some : goal.returns-clause-some
returns-clause-some c =
    next_is c.args.self.now.all c.args.topic.now c.args.after.0 c.subscriber_of.result c.subscriber_of.ensures c.range.result (c.range.ensures.in_range tt)
    c.in-Some.following.now.topic.items c.in-Some.following.now.conn c.next.new.self c.in-Some.ensures.steps (sym c.if-not-is_named.ensures)
