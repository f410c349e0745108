use Rattle.mem_net.proofs.All.{refl, arith, sym, ap, ◌∙◌, slice_set, length-set, state, find, moves, place_within, not_live, Touches, shuts, Shut, shut_leaves}
use Rattle.mem_net.proofs.mem_net.MemNetNet.shut.Goals as goal
use Rattle.mem_net.proofs.mem_net.MemNetNet.shut.Goals.{After-shut}

pub unreachable-requires : goal.unreachable-requires
unreachable-requires c =
    let old = state c.self.inside.schedule c.self.inside.done c.self.inside.links.items c.self.inside.answers c.self.inside.rested c.self.inside.whole c.self.inside.faults c.self.inside.port in
    let live = rw (← c.self.view_is) at c.requires in
    let none = rw (← c.self.view_is) at c.in_default.ensures.none in
    let gone = not_live c.args.conn.0 old none in
    cc

pub index_mut-link-requires : goal.index_mut-link-requires
index_mut-link-requires c =
    let old = state c.self.inside.schedule c.self.inside.done c.self.inside.links.items c.self.inside.answers c.self.inside.rested c.self.inside.whole c.self.inside.faults c.self.inside.port in
    let place = rw (← c.self.view_is) at c.in-Some.ensures.some in
    let within = place_within c.args.conn.0 c.in-Some.place old c.self.invariant.follows place in
    let ok = c.self.inside.links.ok in
    omega arith

leaves : (c : After-shut) → Shut c.args.conn.0
    (state c.self.inside.schedule c.self.inside.done c.self.inside.links.items c.self.inside.answers c.self.inside.rested c.self.inside.whole c.self.inside.faults c.self.inside.port)
    (state c.self.inside.schedule c.self.inside.done (slice_set c.self.inside.links.items c.in-Some.place c.shut.new.self) c.self.inside.answers c.self.inside.rested c.self.inside.whole c.self.inside.faults c.self.inside.port)
leaves c =
    let old = state c.self.inside.schedule c.self.inside.done c.self.inside.links.items c.self.inside.answers c.self.inside.rested c.self.inside.whole c.self.inside.faults c.self.inside.port in
    let new = state c.self.inside.schedule c.self.inside.done (slice_set c.self.inside.links.items c.in-Some.place c.shut.new.self) c.self.inside.answers c.self.inside.rested c.self.inside.whole c.self.inside.faults c.self.inside.port in
    let conn = c.args.conn.0 in
    let place = c.in-Some.place in
    let f = c.self.invariant.follows in
    let at = rw (← c.self.view_is) at c.in-Some.ensures.some in
    let there = find conn place old c.index_mut-link.result.now f at c.index_mut-link.ensures.value in
    let live = rw (← c.self.view_is) at c.requires in
    let touches : Touches conn place old new c.shut.new.self = record { moves = moves conn place old new c.index_mut-link.result.now c.shut.new.self f there refl refl; follows = f; done = refl; answers = refl; length = length-set c.self.inside.links.items place c.shut.new.self; whole = λ h. h } in
    let moved = c.shut.ensures ∙ ap shuts (sym there.found) in
    shut_leaves conn place old new c.shut.new.self touches moved live refl refl refl

pub invariant_of-self : goal.invariant_of-self
invariant_of-self c = let l = leaves (goal.at.invariant_of-self c).After-shut in record { follows = l.follows; numbers_are = c.self.invariant.numbers_are; read = λ h. l.told (c.self.invariant.read h) }

pub returns-clause-shuts : goal.returns-clause-shuts
returns-clause-shuts c = rw (← c.self.view_is) ((leaves (goal.at.returns-clause-shuts c).After-shut).shuts)
