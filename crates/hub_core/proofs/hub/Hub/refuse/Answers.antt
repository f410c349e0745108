use Rattle.hub_core.proofs.All.{refl, ap, ◌∙◌, Ending, head, replied, HubState, phase_at, head_notices, sends_noted, sends_put, of_here, of_other}
use Rattle.hub_core.proofs.hub.Hub.refuse.Goals as goal

pub returns : goal.returns
returns g c =
    let e = c.enter.ensures in
    rw (← c.self.view_is) (sends_noted
    (head_notices c.args.conn.0 (head c.args.conn.0 c.args.status) Ending c.self.inside.table c.enter.new.self c.self.inside.topics c.self.inside.tellings (g.N.Net.state c.args.out.now.net) (g.W.Watch.told c.args.out.now.watch) (g.W.Watch.told c.note.new.self) c.self.invariant
    (ap (λ (z : HubState). phase_at z c.args.conn.0) c.self.view_is ∙ c.requires.phase) e.entry e.due e.elsewhere c.note.ensures refl (λ due. refl) refl refl (λ d. refl) (of_here c.args.conn.0) (λ d ne. of_other c.args.conn.0 d ne) refl (λ d ne t. refl))
    (sends_put (replied c.args.reply.now) c.put.ensures refl))
