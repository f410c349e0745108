use Rattle.hub_core.proofs.All.{◌≡◌, ◌<◌, true, false, None, Some, HubState, rules, subst, arith, IsNextRow, news_at, told_between, told_further, told_last}
use Rattle.hub_core.proofs.hub.Hub.first_told.Goals as goal

pub returns-then-has_news : goal.returns-then-has_news
returns-then-has_news c =
    let next : IsNextRow c.args.self.now.tellings c.walk.place.0 (Some c.in-Some.conn.0) = subst (λ (z : HubState). IsNextRow z.tellings c.walk.place.0 (Some c.in-Some.conn.0)) c.self.view_is c.in-Some.ensures in
    let news : news_at c.args.self.now c.in-Some.conn.0 ≡ true = search rules in
    let above : c.args.after.0 < c.in-Some.conn.0 = let low = c.walk.invariant.further in let high = next.0 in omega arith in
    (above, news, told_between c.args.self.now c.args.after.0 c.walk.place.0 c.in-Some.conn.0 c.walk.invariant.none next)

pub walk-preserved : goal.walk-preserved
walk-preserved c =
    let next : IsNextRow c.args.self.now.tellings c.walk.place.0 (Some c.in-Some.conn.0) = subst (λ (z : HubState). IsNextRow z.tellings c.walk.place.0 (Some c.in-Some.conn.0)) c.self.view_is c.in-Some.ensures in
    let news : news_at c.args.self.now c.in-Some.conn.0 ≡ false = search rules in
    record {
      further = let low = c.walk.invariant.further in let high = next.0 in omega arith;
      none = told_further c.args.self.now c.args.after.0 c.walk.place.0 c.in-Some.conn.0 c.walk.invariant.none next news;
    }

pub returns : goal.returns
returns c = told_last c.args.self.now c.args.after.0 c.walk.place.0 c.walk.invariant.none (subst (λ (z : HubState). IsNextRow z.tellings c.walk.place.0 None) c.self.view_is c.in_default.ensures)
