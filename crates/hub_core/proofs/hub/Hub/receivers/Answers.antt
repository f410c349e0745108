use Rattle.hub_core.proofs.All.{◌≡◌, ◌≤◌, ◌<◌, ◌+◌, ℕ, suc, Bool, true, false, cond, HubState, subst, arith, is_sender, receives, is_pair, IsLast, count_below, number_in, count_begins, count_next, count_end, subscriber_known, zero_topics}
use Rattle.topic_tree.specs.Topics.{IsNext}
use Rattle.hub_core.proofs.hub.Hub.receivers.Goals as goal

one_further : (count after conn more : ℕ) (own : Bool) → count ≤ after → after < conn → more ≡ cond own count (count + 1) → more ≤ conn
one_further count after conn more true few above e = omega arith
one_further count after conn more false few above e = omega arith

pub walk-init : goal.walk-init
walk-init c = record {
  few = omega arith;
  below = omega arith;
  count = subst (λ (z : HubState). 0 ≡ count_below (receives z.pairs (number_in c.args.from) c.args.topic.now) (suc 0)) c.self.view_is (count_begins c.self.inside.topics (number_in c.args.from) c.args.topic.now (zero_topics c.self.inside.table c.self.inside.topics c.self.inside.tellings c.self.invariant));
}

pub walk-preserved : goal.walk-preserved
walk-preserved c =
    let here : IsNext (is_pair c.self.inside.topics c.args.topic.now) c.walk.after.0 c.in-Some.conn.0 = c.in-Some.ensures.some in
    record {
      few = one_further c.walk.count c.walk.after.0 c.in-Some.conn.0 c.with_receiver-count.result (is_sender (number_in c.args.from) c.in-Some.conn.0) c.walk.invariant.few here.above c.with_receiver-count.ensures;
      below = subst (λ (z : HubState). c.in-Some.conn.0 ≤ z.named) c.self.view_is (subscriber_known c.self.inside.table c.self.inside.topics c.self.inside.tellings c.args.topic.now c.in-Some.conn.0 c.self.invariant here.has);
      count = count_next c.args.self.now.pairs (number_in c.args.from) c.args.topic.now c.walk.after.0 c.in-Some.conn.0 c.walk.count c.with_receiver-count.result c.walk.invariant.count
          (subst (λ (z : HubState). IsNext (is_pair z.pairs c.args.topic.now) c.walk.after.0 c.in-Some.conn.0) c.self.view_is here) c.with_receiver-count.ensures;
    }

pub returns : goal.returns
returns c = count_end c.args.self.now.pairs (number_in c.args.from) c.args.topic.now c.walk.after.0 c.args.self.now.named c.walk.count c.walk.invariant.count c.walk.invariant.below
    (subst (λ (z : HubState). IsLast (is_pair z.pairs c.args.topic.now) c.walk.after.0) c.self.view_is c.in_default.ensures.none)
