use Rattle.hub_core.proofs.OrderLemmas.{unserved_noted}
use Rattle.hub_core.proofs.hub.Hub.unserved.Goals as goal

pub returns : goal.returns
returns g c = unserved_noted c.args.conn.0 c.args.order c.args.why c.args.self.now (g.N.Net.state c.args.out.now.net) (g.W.Watch.told c.args.out.now.watch) (g.W.Watch.told c.note.new.self) c.note.ensures c.requires.ties
