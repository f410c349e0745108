use Rattle.hub_core.proofs.All.{◌≡◌, false, rules, refl, sym, subst, Bool, Begins, server, message_is_sent, sends_put, data_frame, is_sender, PutsUnless, number_in}
use Rattle.hub_core.proofs.hub.Hub.publish_to.Goals as goal

pub returns : goal.returns
returns g c =
    let other : is_sender (number_in c.args.from) c.args.conn.0 ≡ false = search rules in
    subst (λ (z : Bool). PutsUnless z c.args.conn.0 (data_frame c.args.kind c.args.body.now) (server c.args.self.now (g.N.Net.state c.args.out.now.net) (g.W.Watch.told c.args.out.now.watch)) (server c.put.new.self (g.N.Net.state c.put.new.out.net) (g.W.Watch.told c.put.new.out.watch))) (sym other)
    (sends_put (data_frame c.args.kind c.args.body.now) c.put.ensures (message_is_sent c.args.kind c.opcode_number.result c.opcode_number.ensures.value, (Begins c.args.kind, sym c.opcode_number.ensures.value, refl)))
