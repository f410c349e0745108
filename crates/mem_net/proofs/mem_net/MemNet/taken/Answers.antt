use Rattle.mem_net.proofs.All.{sym, ap, ◌∙◌, state, find, not_there}
use Rattle.mem_net.proofs.mem_net.MemNet.taken.Goals as goal

pub returns-in-Some-clause-octets : goal.returns-in-Some-clause-octets
returns-in-Some-clause-octets c =
    let old = state c.self.inside.schedule c.self.inside.done c.self.inside.links.items c.self.inside.answers c.self.inside.rested c.self.inside.whole c.self.inside.faults c.self.inside.port in
    let at = rw (← c.self.view_is) at c.in-Some.ensures.some in
    let there = find c.args.conn.0 c.in-Some.place old c.index.result.now c.self.invariant.follows at c.index.ensures in
    rw (← c.self.view_is) (c.taken.ensures ∙ ap (λ l. l.taken) (sym there.found))

pub returns-in-None-clause-octets : goal.returns-in-None-clause-octets
returns-in-None-clause-octets c = ap (λ l. l.taken) (sym (not_there c.args.conn.0 c.args.self.now c.in-None.ensures.none))
