use Rattle.hub_table.proofs.All.{◌≡◌, ◌≤◌, ◌+◌, length, arith, sym, ap, ◌∙◌, subst, IsBinarySearchResult, nat_cmp, Ok, Err, NumberSetState, AreRisingNumbers, added, added_found, added_missed, more_by_one, rising_added}
use Rattle.hub_table.proofs.number_set.NumberSet.insert.Goals as goal

pub insert_at-requires-clause-room : goal.insert_at-requires-clause-room
insert_at-requires-clause-room c =
    let more : length (added c.self.inside.numbers.items c.args.number) ≡ length c.self.inside.numbers.items + 1 = more_by_one c.self.inside.numbers.items c.args.number c.in-Err.place c.self.invariant (subst (λ ns. IsBinarySearchResult (λ y. nat_cmp y c.args.number) ns (Err c.in-Err.place)) c.deref.ensures.value c.in-Err.ensures.position) in
    let few = subst (λ (z : NumberSetState). length (added z.numbers c.args.number) ≤ z.room) (sym c.self.view_is) c.requires in
    let same = sym c.deref.ensures.len ∙ ap length c.deref.ensures.value in omega arith

grown : (c : goal.After-insert_at) → c.insert_at.new.numbers.items ≡ added c.self.inside.numbers.items c.args.number
grown c = c.insert_at.ensures.items ∙ sym (added_missed c.self.inside.numbers.items c.args.number c.in-Err.place c.self.invariant (subst (λ ns. IsBinarySearchResult (λ y. nat_cmp y c.args.number) ns (Err c.in-Err.place)) c.deref.ensures.value c.in-Err.ensures.position))

pub invariant_of-self : goal.invariant_of-self
invariant_of-self c = subst AreRisingNumbers (sym (grown c)) (rising_added c.self.inside.numbers.items c.args.number c.self.invariant)

pub returns-in-Ok-clause-numbers : goal.returns-in-Ok-clause-numbers
returns-in-Ok-clause-numbers c = rw (← c.self.view_is) (sym (added_found c.self.inside.numbers.items c.args.number c.in-Ok.field-0 c.self.invariant (subst (λ ns. IsBinarySearchResult (λ y. nat_cmp y c.args.number) ns (Ok c.in-Ok.field-0)) c.deref.ensures.value c.in-Ok.ensures.position)))

pub returns-in-Err-clause-numbers : goal.returns-in-Err-clause-numbers
returns-in-Err-clause-numbers c = rw (← c.self.view_is) (grown c)
