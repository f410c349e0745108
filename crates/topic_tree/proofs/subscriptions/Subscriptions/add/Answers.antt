use Rattle.topic_tree.proofs.All.{◌∙◌, ap, sym, ◌++◌, ◌∷◌, [], nat_cmp, is_at, set_value, on_ok_weaker, on_err_weaker, set_value_same, unwrap_or, topics_of, pairs_of, found, written}
use Rattle.topic_tree.proofs.subscriptions.Subscriptions.add.Goals as goal

pub returns-in-Some-clause-added : goal.returns-in-Some-clause-added
returns-in-Some-clause-added c = rw (← c.self.view_is) (on_ok_weaker c.push.result
    (λ e. written c.self.inside.lists c.self.invariant (λ topics. topics ++ c.args.topic.now ∷ []) c.args.conn.0 (c.get_mut.follows.lender c.push.new.self) c.in-Some.list.now c.push.new.self
    c.in-Some.ensures.value e (c.get_mut.follows.holds c.push.new.self))
    c.push.ensures.pushed)

pub returns-in-Some-clause-refused : goal.returns-in-Some-clause-refused
returns-in-Some-clause-refused c = rw (← c.self.view_is) (on_err_weaker c.push.result
    (λ e. ap pairs_of ((c.get_mut.follows.holds c.push.new.self).0 ∙ ap (set_value (is_at (nat_cmp c.args.conn.0)) c.self.inside.lists.entries) e
    ∙ set_value_same (is_at (nat_cmp c.args.conn.0)) c.self.inside.lists.entries c.in-Some.list.now (sym c.in-Some.ensures.value)))
    c.push.ensures.refused)

pub begin-requires-clause-none : goal.begin-requires-clause-none
begin-requires-clause-none c =
    ap (λ lists. topics_of (pairs_of lists.entries) c.args.conn.0) c.get_mut.follows.holds-at-none ∙ sym (ap (λ o. unwrap_or o []) c.in-None.ensures.value ∙ found c.self.inside.lists c.self.invariant c.args.conn.0)
