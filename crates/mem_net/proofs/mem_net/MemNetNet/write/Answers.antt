use Rattle.mem_net.proofs.All.{◌≡◌, ◌<◌, ◌&&◌, ◌^◌, true, false, refl, arith, sym, ap, ◌∙◌, slice_set, length, length-set, LinkState, state, find, moves, place_within, arrives_somewhere, not_live, Touches, Wrote, took_leaves, fail_leaves, and_left}
use Rattle.link_trait.specs.declared.net.NetWrote.TheVariants as wrote
use Rattle.mem_net.proofs.mem_net.MemNetNet.write.Goals as goal
use Rattle.mem_net.proofs.mem_net.MemNetNet.write.Goals.{After-saturating_add-self-inside, In-Took}

pub unreachable-requires : goal.unreachable-requires
unreachable-requires c =
    let old = state c.self.inside.schedule c.self.inside.done c.self.inside.links.items c.self.inside.answers c.self.inside.rested c.self.inside.whole c.self.inside.faults c.self.inside.port in
    let live = rw (← c.self.view_is) at c.requires.live in
    let none = rw (← c.self.view_is) at c.in_default.ensures.none in
    let gone = not_live c.args.conn.0 old none in
    cc

pub index_mut-link-requires : goal.index_mut-link-requires
index_mut-link-requires c =
    let old = state c.self.inside.schedule c.self.inside.done c.self.inside.links.items c.self.inside.answers c.self.inside.rested c.self.inside.whole c.self.inside.faults c.self.inside.port in
    let place = rw (← c.self.view_is) at c.in-Some.ensures.some in
    let within = place_within c.args.conn.0 c.in-Some.place old c.self.invariant.follows place in
    let ok = c.self.inside.links.ok in
    omega arith

failed : (c : After-saturating_add-self-inside) → Wrote c.args.conn.0 c.args.octets.now wrote.Failed
    (state c.self.inside.schedule c.self.inside.done c.self.inside.links.items c.self.inside.answers c.self.inside.rested c.self.inside.whole c.self.inside.faults c.self.inside.port)
    (state c.self.inside.schedule c.self.inside.done (slice_set c.self.inside.links.items c.in-Some.place c.write.new.self) c.self.inside.answers c.self.inside.rested (c.self.inside.whole && c.is_failing-by_act.result) c.saturating_add-self-inside.result c.self.inside.port)
failed c =
    let old = state c.self.inside.schedule c.self.inside.done c.self.inside.links.items c.self.inside.answers c.self.inside.rested c.self.inside.whole c.self.inside.faults c.self.inside.port in
    let new = state c.self.inside.schedule c.self.inside.done (slice_set c.self.inside.links.items c.in-Some.place c.write.new.self) c.self.inside.answers c.self.inside.rested (c.self.inside.whole && c.is_failing-by_act.result) c.saturating_add-self-inside.result c.self.inside.port in
    let conn = c.args.conn.0 in
    let place = c.in-Some.place in
    let link : LinkState = c.index_mut-link.result.now in
    let f = c.self.invariant.follows in
    let at = rw (← c.self.view_is) at c.in-Some.ensures.some in
    let there = find conn place old link f at c.index_mut-link.ensures.value in
    let live = rw (← c.self.view_is) at c.requires.live in
    let touches : Touches conn place old new c.write.new.self = record { moves = moves conn place old new link c.write.new.self f there refl refl; follows = f; done = refl; answers = refl; length = length-set c.self.inside.links.items place c.write.new.self; whole = λ h. and_left c.self.inside.whole c.is_failing-by_act.result h } in
    let writes = rw (← there.found) at c.in_default-write.ensures.writes in
    let by_act = ap (λ b. c.self.inside.whole && b) (c.is_failing-by_act.ensures ∙ ap (λ (l : LinkState). l.failing) writes) in
    let small : c.self.inside.faults < 18446744073709551616 = omega arith in
    fail_leaves conn place c.args.octets.now old new c.write.new.self touches writes live (arrives_somewhere c.self.inside.schedule place conn at) by_act small c.saturating_add-self-inside.ensures refl refl

took : (c : In-Took) → Wrote c.args.conn.0 c.args.octets.now (wrote.Took c.in-Took.count)
    (state c.self.inside.schedule c.self.inside.done c.self.inside.links.items c.self.inside.answers c.self.inside.rested c.self.inside.whole c.self.inside.faults c.self.inside.port)
    (state c.self.inside.schedule c.self.inside.done (slice_set c.self.inside.links.items c.in-Some.place c.write.new.self) c.self.inside.answers c.self.inside.rested c.self.inside.whole c.self.inside.faults c.self.inside.port)
took c =
    let old = state c.self.inside.schedule c.self.inside.done c.self.inside.links.items c.self.inside.answers c.self.inside.rested c.self.inside.whole c.self.inside.faults c.self.inside.port in
    let new = state c.self.inside.schedule c.self.inside.done (slice_set c.self.inside.links.items c.in-Some.place c.write.new.self) c.self.inside.answers c.self.inside.rested c.self.inside.whole c.self.inside.faults c.self.inside.port in
    let conn = c.args.conn.0 in
    let place = c.in-Some.place in
    let link : LinkState = c.index_mut-link.result.now in
    let f = c.self.invariant.follows in
    let at = rw (← c.self.view_is) at c.in-Some.ensures.some in
    let there = find conn place old link f at c.index_mut-link.ensures.value in
    let live = rw (← c.self.view_is) at c.requires.live in
    let touches : Touches conn place old new c.write.new.self = record { moves = moves conn place old new link c.write.new.self f there refl refl; follows = f; done = refl; answers = refl; length = length-set c.self.inside.links.items place c.write.new.self; whole = λ h. h } in
    let writes = rw (← there.found) at c.in-Took.ensures.writes in
    let short : length c.args.octets.now < 2 ^ 63 = omega arith in
    took_leaves conn place c.args.octets.now c.in-Took.count old new c.write.new.self touches writes c.in-Took.ensures.few short live (arrives_somewhere c.self.inside.schedule place conn at) refl refl refl refl

pub invariant_of-self-in_default-write : goal.invariant_of-self-in_default-write
invariant_of-self-in_default-write c = let l = failed (goal.at.invariant_of-self-in_default-write c).After-saturating_add-self-inside in record { follows = l.follows; numbers_are = c.self.invariant.numbers_are; read = λ h. l.told (c.self.invariant.read h) }

pub returns-in_default-write-clause-writes : goal.returns-in_default-write-clause-writes
returns-in_default-write-clause-writes c = rw (← c.self.view_is) ((failed (goal.at.returns-in_default-write-clause-writes c).After-saturating_add-self-inside).writes)

pub returns-in_default-write-clause-takes : goal.returns-in_default-write-clause-takes
returns-in_default-write-clause-takes c = rw (← c.self.view_is) ((failed (goal.at.returns-in_default-write-clause-takes c).After-saturating_add-self-inside).takes)

pub invariant_of-self : goal.invariant_of-self
invariant_of-self c = let l = took (goal.at.invariant_of-self c).In-Took in record { follows = l.follows; numbers_are = c.self.invariant.numbers_are; read = λ h. l.told (c.self.invariant.read h) }

pub returns-clause-writes : goal.returns-clause-writes
returns-clause-writes c = rw (← c.self.view_is) ((took (goal.at.returns-clause-writes c).In-Took).writes)

pub returns-clause-takes : goal.returns-clause-takes
returns-clause-takes c = rw (← c.self.view_is) ((took (goal.at.returns-clause-takes c).In-Took).takes)
