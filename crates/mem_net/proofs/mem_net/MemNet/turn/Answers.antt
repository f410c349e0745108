use Rattle.mem_net.proofs.All.{◌+◌, true, Some, refl, state, Leaves, turn_leaves}
use Rattle.link_trait.specs.declared.net.NetEvent.TheVariants as event
use Rattle.mem_net.proofs.mem_net.MemNet.turn.Goals as goal
use Rattle.mem_net.proofs.mem_net.MemNet.turn.Goals.{After-saturating_add-self-inside}

leaves : (c : After-saturating_add-self-inside) → Leaves (Some event.Turn)
    (state c.self.inside.schedule c.self.inside.done c.self.inside.links.items c.self.inside.answers c.self.inside.rested c.self.inside.whole c.self.inside.faults c.self.inside.port)
    (state c.self.inside.schedule (c.self.inside.done + 1) c.self.inside.links.items c.saturating_add-self-inside.result true c.self.inside.whole c.self.inside.faults c.self.inside.port)
leaves c =
    let told = rw (← c.self.view_is) at c.requires.told in
    let at = rw (← c.self.view_is) at c.requires.act in
    turn_leaves _ _ (record { at = at; follows = c.self.invariant.follows; acts = refl; one_more = refl; whole = refl }) refl told c.saturating_add-self-inside.ensures refl refl refl

pub invariant_of-self : goal.invariant_of-self
invariant_of-self c = let l = leaves (goal.at.invariant_of-self c).After-saturating_add-self-inside in record { follows = l.follows; numbers_are = c.self.invariant.numbers_are; read = λ h. l.told }

pub returns : goal.returns
returns c = rw (← c.self.view_is) ((leaves (goal.at.returns c).After-saturating_add-self-inside).does)
