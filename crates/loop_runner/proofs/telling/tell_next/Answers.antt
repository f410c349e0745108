use Rattle.loop_runner.proofs.All.{◌≤◌, ℕ, sym, subst, news_kept, news_low}
use Rattle.loop_runner.proofs.telling.tell_next.Goals as goal

pub returns-in-Some : goal.returns-in-Some
returns-in-Some g c =
    let taken = c.in-Some.ensures.some in
    let hub = c.args.hub.now in
    let conn = c.in-Some.telling.conn.0 in
    let one = c.tell.ensures c.args.after.0 hub (record {
      takes = taken;
      appends = c.next_told.ensures.appends (g.N.Net.state c.args.out.now.net) (g.W.Watch.told c.args.out.now.watch);
      table = c.requires.running.table;
      tables = c.next_told.ensures.table;
      named = c.next_told.ensures.named;
      admitted = c.requires.running.kept conn (news_kept hub conn taken.next.news);
    }) in
    record {
      some = (taken.next.above, subst (λ (z : ℕ). conn ≤ z) (sym one.steps.named) (news_low hub conn c.requires.running.table taken.next.news), one);
      none = tt {0};
    }
