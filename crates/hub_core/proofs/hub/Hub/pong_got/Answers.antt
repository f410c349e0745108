use Rattle.hub_core.proofs.All.{rules, refl, pong_got, notes_alone, notes_open, of_other}
use Rattle.hub_core.proofs.hub.Hub.pong_got.Goals as goal

pub returns : goal.returns
returns g c =
    notes_alone c.args.conn.0 (pong_got c.args.conn.0 c.args.body.now) c.args.self.now (g.N.Net.state c.args.out.now.net) (g.W.Watch.told c.args.out.now.watch) (g.W.Watch.told c.note.new.self) c.note.ensures refl (λ d. refl)
    (notes_open c.args.self.now c.args.conn.0 (pong_got c.args.conn.0 c.args.body.now) (λ d ne. of_other c.args.conn.0 d ne) c.requires.phase refl (λ topics due. refl) (λ d t. refl)) c.requires.ties (search rules)
