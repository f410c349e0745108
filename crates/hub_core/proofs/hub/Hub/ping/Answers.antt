use Rattle.hub_core.proofs.All.{refl, sym, pinged, Ping, [], whole, notices_none, notes_open, number_is_sent, sends_noted, sends_put, of_other}
use Rattle.hub_core.proofs.hub.Hub.ping.Goals as goal

pub returns : goal.returns
returns g c = sends_noted
    (notices_none c.args.conn.0 (pinged c.args.conn.0) c.args.self.now (g.N.Net.state c.args.out.now.net) (g.W.Watch.told c.args.out.now.watch) (g.W.Watch.told c.note.new.self) c.note.ensures refl (λ d. refl)
    (notes_open c.args.self.now c.args.conn.0 (pinged c.args.conn.0) (λ d ne. of_other c.args.conn.0 d ne) c.requires.phase refl (λ topics due. refl) (λ d t. refl)))
    (sends_put (whole Ping []) c.put.ensures (number_is_sent Ping c.opcode_number.result refl c.opcode_number.ensures.value, (Ping, sym c.opcode_number.ensures.value, refl)))
