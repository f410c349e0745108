use Rattle.mem_net.proofs.All.{◌≡◌, ◌<◌, true, false, Some, refl, arith, sym, ap, ◌∙◌, slice_get, slice_set, length, length-set, list_any, slice_get_read, is_untold, tells, arrivals, state, find, moves, Again, told_again, all_told}
use Rattle.mem_net.proofs.mem_net.MemNet.repeat.Goals as goal
use Rattle.mem_net.proofs.mem_net.MemNet.repeat.Goals.{After-index}

pub invariant_of-self : goal.invariant_of-self
invariant_of-self c =
    let old = state c.self.inside.schedule c.self.inside.done c.self.inside.links.items c.self.inside.answers c.self.inside.rested c.self.inside.whole c.self.inside.faults c.self.inside.port in
    let none : list_any is_untold c.self.inside.links.items ≡ false = ap (list_any is_untold) (sym c.deref.ensures.value) ∙ c.in_default.ensures.none in
    record { follows = c.self.invariant.follows; numbers_are = c.self.invariant.numbers_are; read = λ h. all_told old none }

pub returns-in_default-clause-told : goal.returns-in_default-clause-told
returns-in_default-clause-told c =
    let old = state c.self.inside.schedule c.self.inside.done c.self.inside.links.items c.self.inside.answers c.self.inside.rested c.self.inside.whole c.self.inside.faults c.self.inside.port in
    all_told old (ap (list_any is_untold) (sym c.deref.ensures.value) ∙ c.in_default.ensures.none)

told : (c : After-index) → Again c.index.result.now
    (state c.self.inside.schedule c.self.inside.done c.self.inside.links.items c.self.inside.answers c.self.inside.rested c.self.inside.whole c.self.inside.faults c.self.inside.port)
    (state c.self.inside.schedule c.self.inside.done (slice_set c.self.inside.links.items c.in-Some.place c.tell.new.self) c.self.inside.answers false c.self.inside.whole c.self.inside.faults c.self.inside.port)
told c =
    let old = state c.self.inside.schedule c.self.inside.done c.self.inside.links.items c.self.inside.answers c.self.inside.rested c.self.inside.whole c.self.inside.faults c.self.inside.port in
    let new = state c.self.inside.schedule c.self.inside.done (slice_set c.self.inside.links.items c.in-Some.place c.tell.new.self) c.self.inside.answers false c.self.inside.whole c.self.inside.faults c.self.inside.port in
    let place = c.in-Some.place in
    let conn = c.index.result.now in
    let link = c.index_mut-link.result.now in
    let f = c.self.invariant.follows in
    let whole : c.deref.result.now ≡ c.self.inside.links.items = c.deref.ensures.value in
    let within : place < length c.self.inside.links.items = rw (← whole) c.in-Some.ensures.some.0 in
    let among : place < length c.self.inside.numbers.items = rw (c.self.invariant.numbers_are) (let l = f.links in omega arith) in
    let numbers : slice_get c.self.inside.numbers.items place ≡ Some conn = slice_get_read c.self.inside.numbers.items (length c.self.inside.numbers.items) place conn refl among c.index.ensures in
    let at : slice_get (arrivals c.self.inside.schedule) place ≡ Some conn = rw (← c.self.invariant.numbers_are) numbers in
    let there = find conn place old link f at c.index_mut-link.ensures.value in
    let stands : slice_get c.self.inside.links.items place ≡ Some link = slice_get_read c.self.inside.links.items (length c.self.inside.links.items) place link refl within c.index_mut-link.ensures.value in
    let untold : is_untold link ≡ true = c.in-Some.ensures.some.1 link (rw whole stands) in
    told_again conn place old new c.tell.new.self
    (record { moves = moves conn place old new link c.tell.new.self f there refl refl; follows = f; done = refl; answers = refl; length = length-set c.self.inside.links.items place c.tell.new.self; whole = λ h. h })
    (c.tell.ensures ∙ ap tells (sym there.found)) (ap is_untold there.found ∙ untold) refl refl refl refl

pub invariant_of-self-2 : goal.invariant_of-self-2
invariant_of-self-2 c =
    let again = told (goal.at.invariant_of-self-2 c).After-index in
    let unread = c.if-not-self.false in
    record { follows = again.follows; numbers_are = c.self.invariant.numbers_are; read = λ h. cc }

pub returns-clause-again : goal.returns-clause-again
returns-clause-again c = rw (← c.self.view_is) ((told (goal.at.returns-clause-again c).After-index).repeats)
