use Rattle.mem_net.proofs.All.{◌<◌, true, refl, arith, state, stops}
use Rattle.mem_net.proofs.mem_net.MemNet.stop.Goals as goal

pub returns-clause-next : goal.returns-clause-next
returns-clause-next c =
    let old = state c.self.inside.schedule c.self.inside.done c.self.inside.links.items c.self.inside.answers c.self.inside.rested c.self.inside.whole c.self.inside.faults c.self.inside.port in
    let new = state c.self.inside.schedule c.self.inside.done c.self.inside.links.items c.saturating_add-self-inside.result true c.self.inside.whole c.self.inside.faults c.self.inside.port in
    let small : c.self.inside.answers < 18446744073709551616 = omega arith in
    rw (← c.self.view_is) (stops old new c.self.invariant.follows small refl refl refl c.saturating_add-self-inside.ensures refl refl refl)
