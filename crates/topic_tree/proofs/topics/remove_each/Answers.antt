use Rattle.topic_tree.proofs.All.{◌∙◌, ap, Bool, not, ◌&&◌, nat_eq, arith, bytes_eq, has_subscriber, walked}
use Rattle.topic_tree.proofs.topics.remove_each.Goals as goal

pub walk-preserved : goal.walk-preserved
walk-preserved c t d =
    c.remove.ensures t d ∙ ap (λ (z : Bool). not (nat_eq c.args.conn.0 d && bytes_eq c.at.result.now t) && z) (c.walk.invariant t d)
    ∙ walked c.args.topics.now c.walk.place c.at.result.now t (nat_eq c.args.conn.0 d) (has_subscriber c.args.subscribers.now t d) (omega (arith, c.walk-test.true, c.count-place-end.ensures)) c.at.ensures.topic
