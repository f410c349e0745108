use Rattle.mem_net.proofs.All.{◌≡◌, ◌+◌, ◌<◌, false, refl, arith, sym, ap, ◌∙◌, slice_set, length, length-set, min, state, find, moves, place_within, arrives_somewhere, not_live, Touches, Read, read_leaves, neither}
use Rattle.mem_net.proofs.mem_net.MemNetNet.read.Goals as goal
use Rattle.mem_net.proofs.mem_net.MemNetNet.read.Goals.{After-saturating_add-self-inside}

pub unreachable-requires : goal.unreachable-requires
unreachable-requires c =
    let old = state c.self.inside.schedule c.self.inside.done c.self.inside.links.items c.self.inside.answers c.self.inside.rested c.self.inside.whole c.self.inside.faults c.self.inside.port in
    let live = rw (← c.self.view_is) at c.requires.live in
    let none = rw (← c.self.view_is) at c.in_default.ensures.none in
    let gone = not_live c.args.conn.0 old none in
    cc

pub index_mut-link-requires : goal.index_mut-link-requires
index_mut-link-requires c =
    let old = state c.self.inside.schedule c.self.inside.done c.self.inside.links.items c.self.inside.answers c.self.inside.rested c.self.inside.whole c.self.inside.faults c.self.inside.port in
    let place = rw (← c.self.view_is) at c.in-Some.ensures.some in
    let within = place_within c.args.conn.0 c.in-Some.place old c.self.invariant.follows place in
    let ok = c.self.inside.links.ok in
    omega arith

leaves : (c : After-saturating_add-self-inside) → Read c.args.conn.0 c.read-answer.new.room c.read-answer.result c.read-answer.new.self
    (state c.self.inside.schedule c.self.inside.done c.self.inside.links.items c.self.inside.answers c.self.inside.rested c.self.inside.whole c.self.inside.faults c.self.inside.port)
    (state c.self.inside.schedule c.self.inside.done (slice_set c.self.inside.links.items c.in-Some.place c.read-answer.new.self) c.self.inside.answers false c.self.inside.whole c.saturating_add-self-inside.result c.self.inside.port)
leaves c =
    let old = state c.self.inside.schedule c.self.inside.done c.self.inside.links.items c.self.inside.answers c.self.inside.rested c.self.inside.whole c.self.inside.faults c.self.inside.port in
    let new = state c.self.inside.schedule c.self.inside.done (slice_set c.self.inside.links.items c.in-Some.place c.read-answer.new.self) c.self.inside.answers false c.self.inside.whole c.saturating_add-self-inside.result c.self.inside.port in
    let conn = c.args.conn.0 in
    let place = c.in-Some.place in
    let f = c.self.invariant.follows in
    let at = rw (← c.self.view_is) at c.in-Some.ensures.some in
    let there = find conn place old c.index_mut-link.result.now f at c.index_mut-link.ensures.value in
    let live = rw (← c.self.view_is) at c.requires.live in
    let touches : Touches conn place old new c.read-answer.new.self = record { moves = moves conn place old new c.index_mut-link.result.now c.read-answer.new.self f there refl refl; follows = f; done = refl; answers = refl; length = length-set c.self.inside.links.items place c.read-answer.new.self; whole = λ h. h } in
    let reads = rw (← there.found) at c.read-answer.ensures in
    let same : length c.read-answer.new.room ≡ length c.args.room.now = c.read-answer.auto.room in
    let some : 0 < length c.read-answer.new.room = rw same c.requires.some in
    let small : c.self.inside.faults < 18446744073709551616 = omega arith in
    let count = c.saturating_add-self-inside.ensures ∙ ap (λ k. min (c.self.inside.faults + k) 18446744073709551615) c.faults_in.ensures in
    read_leaves c.read-answer.result conn place c.read-answer.new.room old new c.read-answer.new.self touches reads live (arrives_somewhere c.self.inside.schedule place conn at) some small count refl refl

pub invariant_of-self : goal.invariant_of-self
invariant_of-self c =
    let l = leaves (goal.at.invariant_of-self c).After-saturating_add-self-inside in
    record {
      follows = l.follows;
      numbers_are = c.self.invariant.numbers_are;
      read = λ h. l.told (c.self.invariant.read (neither c.self.inside.unread c.is_ready-ready.result h).0) (sym c.is_ready-ready.ensures ∙ (neither c.self.inside.unread c.is_ready-ready.result h).1);
    }

pub returns-clause-reads : goal.returns-clause-reads
returns-clause-reads c = rw (← c.self.view_is) ((leaves (goal.at.returns-clause-reads c).After-saturating_add-self-inside).reads)

pub returns-clause-link : goal.returns-clause-link
returns-clause-link c = rw (← c.self.view_is) ((leaves (goal.at.returns-clause-link c).After-saturating_add-self-inside).link)
