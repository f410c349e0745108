use Rattle.hub_table.proofs.All.{◌≡◌, false, sym, ◌∙◌, subst, IsBinarySearchResult, nat_cmp, Ok, Err, AreRisingNumbers, removed, removed_found, removed_missed, rising_marked}
use Rattle.hub_table.proofs.number_set.NumberSet.remove.Goals as goal

found : (c : goal.After-remove) → c.remove.new.self.items ≡ removed c.self.inside.numbers.items c.args.number
found c = c.remove.ensures.items ∙ sym (removed_found c.self.inside.numbers.items c.args.number c.in-Ok.place c.self.invariant (subst (λ ns. IsBinarySearchResult (λ y. nat_cmp y c.args.number) ns (Ok c.in-Ok.place)) c.deref.ensures.value c.in-Ok.ensures.position))

pub invariant_of-self : goal.invariant_of-self
invariant_of-self c = subst AreRisingNumbers (sym (found c)) (rising_marked c.self.inside.numbers.items c.args.number false c.self.invariant)

pub returns-in-Ok-clause-numbers : goal.returns-in-Ok-clause-numbers
returns-in-Ok-clause-numbers c = rw (← c.self.view_is) (found c)

pub returns-in_default-clause-numbers : goal.returns-in_default-clause-numbers
returns-in_default-clause-numbers c = rw (← c.self.view_is) (sym (removed_missed c.self.inside.numbers.items c.args.number c.in_default.field-0 c.self.invariant (subst (λ ns. IsBinarySearchResult (λ y. nat_cmp y c.args.number) ns (Err c.in_default.field-0)) c.deref.ensures.value c.in_default.ensures.position)))
