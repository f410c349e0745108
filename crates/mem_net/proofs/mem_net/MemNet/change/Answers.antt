use Rattle.mem_net.proofs.All.{◌≡◌, ◌+◌, false, Some, None, refl, arith, slice_set, length-set, ◌∙◌, ap, sym, if◌then◌else◌, changes, next_fits, state, Leaves, find, moves, place_within, changing_arrived, change_leaves}
use Rattle.link_trait.specs.declared.net.NetEvent.TheVariants as event
use Rattle.mem_net.proofs.mem_net.MemNet.change.Goals as goal
use Rattle.mem_net.proofs.mem_net.MemNet.change.Goals.{After-change-tells, then-tells, else-tells}

pub unreachable-requires : goal.unreachable-requires
unreachable-requires c =
    let old = state c.self.inside.schedule c.self.inside.done c.self.inside.links.items c.self.inside.answers c.self.inside.rested c.self.inside.whole c.self.inside.faults c.self.inside.port in
    let act = rw (← c.self.view_is) at c.requires.act in
    let come = changing_arrived old.acts old.done c.args.change c.args.conn.0 act.0 c.self.invariant.follows.sound act.1 act.2 in
    let none = rw (← c.self.view_is) at c.in_default.ensures.none in
    cc

pub index_mut-link-requires : goal.index_mut-link-requires
index_mut-link-requires c =
    let old = state c.self.inside.schedule c.self.inside.done c.self.inside.links.items c.self.inside.answers c.self.inside.rested c.self.inside.whole c.self.inside.faults c.self.inside.port in
    let place = rw (← c.self.view_is) at c.in-Some.ensures.some in
    let within = place_within c.args.conn.0 c.in-Some.place old c.self.invariant.follows place in
    let ok = c.self.inside.links.ok in
    omega arith

pub overflow_add-self : goal.overflow_add-self
overflow_add-self c =
    let old = state c.self.inside.schedule c.self.inside.done c.self.inside.links.items c.self.inside.answers c.self.inside.rested c.self.inside.whole c.self.inside.faults c.self.inside.port in
    let act = rw (← c.self.view_is) at c.requires.act in
    let fits = next_fits act.0 old c.self.invariant.follows act.1 in
    omega arith

leaves : (c : After-change-tells) → Leaves (if c.change-tells.result then Some (event.Writable c.args.conn) else None)
    (state c.self.inside.schedule c.self.inside.done c.self.inside.links.items c.self.inside.answers c.self.inside.rested c.self.inside.whole c.self.inside.faults c.self.inside.port)
    (state c.self.inside.schedule (c.self.inside.done + 1) (slice_set c.self.inside.links.items c.in-Some.place c.change-tells.new.self) c.self.inside.answers false c.self.inside.whole c.self.inside.faults c.self.inside.port)
leaves c =
    let old = state c.self.inside.schedule c.self.inside.done c.self.inside.links.items c.self.inside.answers c.self.inside.rested c.self.inside.whole c.self.inside.faults c.self.inside.port in
    let conn = c.args.conn.0 in
    let told = rw (← c.self.view_is) at c.requires.told in
    let act = rw (← c.self.view_is) at c.requires.act in
    let place = rw (← c.self.view_is) at c.in-Some.ensures.some in
    let there = find conn c.in-Some.place old c.index_mut-link.result.now c.self.invariant.follows place c.index_mut-link.ensures.value in
    let moved = c.change-tells.ensures.changed ∙ ap (changes c.args.change) (sym there.found) in
    let tells = c.change-tells.ensures.tells ∙ ap (λ l. l.live) (sym there.found) in
    change_leaves c.args.change act.0 conn c.in-Some.place old _ c.change-tells.new.self act.2 (record { at = act.1; follows = c.self.invariant.follows; acts = refl; one_more = refl; whole = refl })
    (moves conn c.in-Some.place old _ c.index_mut-link.result.now c.change-tells.new.self c.self.invariant.follows there refl refl)
    moved (length-set c.self.inside.links.items c.in-Some.place c.change-tells.new.self) told (record { answers = refl; faults = refl; port = refl }) refl c.change-tells.result tells

pub invariant_of-self : goal.invariant_of-self
invariant_of-self c = let l = leaves (goal.at.invariant_of-self c).After-change-tells in record { follows = l.follows; numbers_are = c.self.invariant.numbers_are; read = λ h. l.told }

pub returns : goal.returns
returns c =
    let told : c.if-tells.result ≡ (if c.change-tells.result then Some (event.Writable c.args.conn) else None) =
    elim c.if-tells.branch [ then-tells w ↦ w.result-is ∙ sym (rw w.if-tells.true refl) | else-tells w ↦ w.result-is ∙ sym (rw w.if-tells.false refl) ] in
    rw (← c.self.view_is, told) ((leaves (goal.at.returns c).After-change-tells).does)
