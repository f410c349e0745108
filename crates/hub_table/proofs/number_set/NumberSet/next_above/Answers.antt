use Rattle.hub_table.proofs.All.{◌+◌, ap, ◌∙◌, subst, slice_get, IsBinarySearchResult, nat_cmp, Ok, Err, above_found, above_missed}
use Rattle.hub_table.proofs.number_set.NumberSet.next_above.Goals as goal

pub returns-in-Ok : goal.returns-in-Ok
returns-in-Ok c = rw (← c.self.view_is) (c.number_at.ensures ∙ ap (λ ns. slice_get ns (c.in-Ok.place + 1)) c.deref-in-Ok.ensures.value
    ∙ above_found c.self.inside.numbers.items c.args.number c.in-Ok.place c.self.invariant (subst (λ ns. IsBinarySearchResult (λ y. nat_cmp y c.args.number) ns (Ok c.in-Ok.place)) c.deref.ensures.value c.in-Ok.ensures.position))

pub returns-in-Err : goal.returns-in-Err
returns-in-Err c = rw (← c.self.view_is) (c.number_at-in-Err.ensures ∙ ap (λ ns. slice_get ns c.in-Err.place) c.deref-in-Err.ensures.value
    ∙ above_missed c.self.inside.numbers.items c.args.number c.in-Err.place c.self.invariant (subst (λ ns. IsBinarySearchResult (λ y. nat_cmp y c.args.number) ns (Err c.in-Err.place)) c.deref.ensures.value c.in-Err.ensures.position))
