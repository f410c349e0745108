use Rattle.mem_net.proofs.All.{◌+◌, false, Some, refl, arith, slice_set, length-set, ◌∙◌, ap, sym, arrives, next_fits, state, Leaves, find, moves, place_within, arrival_among, arrive_leaves, same_number}
use Rattle.link_trait.specs.declared.net.NetEvent.TheVariants as event
use Rattle.link_trait.specs.declared.act.Act.TheVariants as act
use Rattle.mem_net.proofs.mem_net.MemNet.arrive.Goals as goal
use Rattle.mem_net.proofs.mem_net.MemNet.arrive.Goals.{After-saturating_add-self-inside}

pub unreachable-requires : goal.unreachable-requires
unreachable-requires c =
    let come = arrival_among c.args.self.now.acts c.args.self.now.done c.args.conn.0 (act.Arrive c.args.conn c.args.credit) c.requires.act (same_number c.args.conn.0) in
    let none = c.in_default.ensures.none in
    cc

pub index_mut-link-requires : goal.index_mut-link-requires
index_mut-link-requires c =
    let old = state c.self.inside.schedule c.self.inside.done c.self.inside.links.items c.self.inside.answers c.self.inside.rested c.self.inside.whole c.self.inside.faults c.self.inside.port in
    let place = rw (← c.self.view_is) at c.in-Some.ensures.some in
    let within = place_within c.args.conn.0 c.in-Some.place old c.self.invariant.follows place in
    let ok = c.self.inside.links.ok in
    omega arith

pub overflow_add-self : goal.overflow_add-self
overflow_add-self c =
    let old = state c.self.inside.schedule c.self.inside.done c.self.inside.links.items c.self.inside.answers c.self.inside.rested c.self.inside.whole c.self.inside.faults c.self.inside.port in
    let fits = next_fits (act.Arrive c.args.conn c.args.credit) old c.self.invariant.follows (rw (← c.self.view_is) at c.requires.act) in
    omega arith

leaves : (c : After-saturating_add-self-inside) → Leaves (Some (event.Accept c.args.conn))
    (state c.self.inside.schedule c.self.inside.done c.self.inside.links.items c.self.inside.answers c.self.inside.rested c.self.inside.whole c.self.inside.faults c.self.inside.port)
    (state c.self.inside.schedule (c.self.inside.done + 1) (slice_set c.self.inside.links.items c.in-Some.place c.arrive.new.self) c.saturating_add-self-inside.result false c.self.inside.whole c.self.inside.faults c.self.inside.port)
leaves c =
    let old = state c.self.inside.schedule c.self.inside.done c.self.inside.links.items c.self.inside.answers c.self.inside.rested c.self.inside.whole c.self.inside.faults c.self.inside.port in
    let conn = c.args.conn.0 in
    let told = rw (← c.self.view_is) at c.requires.told in
    let at = rw (← c.self.view_is) at c.requires.act in
    let place = rw (← c.self.view_is) at c.in-Some.ensures.some in
    let there = find conn c.in-Some.place old c.index_mut-link.result.now c.self.invariant.follows place c.index_mut-link.ensures.value in
    let moved = c.arrive.ensures ∙ ap (arrives c.args.credit) (sym there.found) in
    arrive_leaves conn c.in-Some.place c.args.credit old _ c.arrive.new.self (record { at = at; follows = c.self.invariant.follows; acts = refl; one_more = refl; whole = refl })
    (moves conn c.in-Some.place old _ c.index_mut-link.result.now c.arrive.new.self c.self.invariant.follows there refl refl)
    moved (length-set c.self.inside.links.items c.in-Some.place c.arrive.new.self) told c.saturating_add-self-inside.ensures refl refl refl

pub invariant_of-self : goal.invariant_of-self
invariant_of-self c = let l = leaves (goal.at.invariant_of-self c).After-saturating_add-self-inside in record { follows = l.follows; numbers_are = c.self.invariant.numbers_are; read = λ h. l.told }

pub returns : goal.returns
returns c = rw (← c.self.view_is) ((leaves (goal.at.returns c).After-saturating_add-self-inside).does)
