use Rattle.topic_tree.proofs.All.{◌≡◌, ◌∙◌, ap, subst, refl, List, ℕ, [], unwrap_or, topics_of, without_topic, pairs_of, found, written, unchanged}
use Rattle.topic_tree.proofs.subscriptions.Subscriptions.remove.Goals as goal

pub returns : goal.returns
returns c = rw (← c.self.view_is) (written c.self.inside.lists c.self.invariant (without_topic c.args.topic.now) c.args.conn.0 (c.get_mut.follows.lender c.remove.new.self) c.in-Some.list.now c.remove.new.self
    c.in-Some.ensures.value c.remove.ensures (c.get_mut.follows.holds c.remove.new.self))

pub returns-in_default : goal.returns-in_default
returns-in_default c =
    let none : [] ≡ topics_of (pairs_of c.self.inside.lists.entries) c.args.conn.0 = ap (λ o. unwrap_or o []) c.in_default.ensures.value ∙ found c.self.inside.lists c.self.invariant c.args.conn.0 in
    rw (c.get_mut.follows.holds-at-none, ← c.self.view_is) (unchanged c.self.inside.lists c.self.invariant (without_topic c.args.topic.now) c.args.conn.0
    (subst (λ (topics : List (List ℕ)). topics ≡ without_topic c.args.topic.now topics) none refl))
