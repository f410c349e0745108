use Rattle.hub_core.proofs.All.{◌∙◌, sym, server, TopicsEnd, send, why_shown, order_refused, open_alone, sent}
use Rattle.hub_core.proofs.hub.Hub.serve_send.Goals as goal

pub returns-in-Err : goal.returns-in-Err
returns-in-Err g c admits =
    order_refused admits c.args.conn.0 c.args.number (send c.args.to.0 c.args.kind c.args.body.now) c.in-Err.why c.in-Err.ensures.refused c.unserved.ensures c.send.ensures.table
    (sym (why_shown c.args.self.now.config c.args.self.now c.args.to.0 c.args.kind c.args.body.now) ∙ sym c.in-Err.ensures.reason)

pub returns-in-Ok : goal.returns-in-Ok
returns-in-Ok g c admits =
    let topics : TopicsEnd (server c.args.self.now (g.N.Net.state c.args.out.now.net) (g.W.Watch.told c.args.out.now.watch)) = rw (← c.self.view_is) (open_alone c.self.inside.table c.self.inside.topics c.self.inside.tellings (g.N.Net.state c.args.out.now.net) (g.W.Watch.told c.args.out.now.watch) c.self.invariant) in
    record {
      ties = c.send.ensures.ties;
      serves = sent c.args.self.now.config admits c.args.conn.0 c.args.number (server c.args.self.now (g.N.Net.state c.args.out.now.net) (g.W.Watch.told c.args.out.now.watch)) (server c.send.new.self (g.N.Net.state c.send.new.out.net) (g.W.Watch.told c.send.new.out.watch)) c.args.to.0 c.args.kind c.args.body.now
          (sym (why_shown c.args.self.now.config c.args.self.now c.args.to.0 c.args.kind c.args.body.now) ∙ sym c.in-Ok.ensures.reason) topics c.in-Ok.ensures.proceeds c.in-Ok.ensures.appends;
      named = c.send.ensures.named;
      table = c.send.ensures.table;
    }
