use Rattle.hub_core.proofs.All.{◌≡◌, ◌≢◌, false, rules, subst, Server, server, entry_at, is_gone, Kept, Failed, PutsItem, falsely, put_proceeds, put_appends, put_elsewhere, put_ties, put_tells, fail_proceeds, fail_appends, fail_elsewhere, fail_ties}
use Rattle.hub_core.proofs.hub.Hub.put.Goals as goal

pub returns : goal.returns
returns g c =
    let p = c.put_item-kept.ensures in
    let well : c.put_item-kept.result ≢ Failed = search rules in
    let there : is_gone (entry_at c.args.self.now c.args.conn.0).phase ≡ false = falsely (is_gone (entry_at c.args.self.now c.args.conn.0).phase) c.requires.present in
    record {
      ties = put_ties p c.requires.ties;
      proceeds = put_proceeds p there well;
      appends = λ sent s. put_appends c.args.item p sent s there well;
      elsewhere = put_elsewhere p;
      kept = put_tells p there well;
      config = p.elsewhere.table.config;
      named = p.elsewhere.table.named;
      table = p.table;
    }

pub returns-then-eq : goal.returns-then-eq
returns-then-eq g c =
    let broken : c.put_item-kept.result ≡ Failed = search rules in
    let old : Server = server c.args.self.now (g.N.Net.state c.args.out.now.net) (g.W.Watch.told c.args.out.now.watch) in
    let mid : Server = server c.put_item-kept.new.self (g.N.Net.state c.put_item-kept.new.out.net) (g.W.Watch.told c.put_item-kept.new.out.watch) in
    let p : PutsItem c.args.conn.0 c.args.item Failed old mid = subst (λ (z : Kept). PutsItem c.args.conn.0 c.args.item z old mid) broken c.put_item-kept.ensures in
    let there : is_gone (entry_at c.args.self.now c.args.conn.0).phase ≡ false = falsely (is_gone (entry_at c.args.self.now c.args.conn.0).phase) c.requires.present in
    let x = c.leave.ensures in
    record {
      ties = fail_ties p x.leaves there c.requires.ties;
      proceeds = fail_proceeds p x.leaves there;
      appends = fail_appends c.args.item p x.leaves there;
      elsewhere = fail_elsewhere p x.leaves there;
      kept = x.away;
      config = search rules;
      named = search rules;
      table = x.table;
    }
