use Rattle.upgrade_head.proofs.All.{ℕ, Option, Some, None, subst, sym, ap, ◌∙◌, FindsNeedle, empty_line, end_behind, end-None, end-Some}
use Rattle.upgrade_head.proofs.judging.head_end.Goals as goal

pub returns-in-Some-clause-value : goal.returns-in-Some-clause-value
returns-in-Some-clause-value c =
    let seen : FindsNeedle c.bounded.result.now empty_line 0 (Some c.in-Some.place) = subst (λ (r : Option ℕ). FindsNeedle c.bounded.result.now empty_line 0 r) c.in-Some.is c.find.ensures in
    sym (ap (end_behind 0) (sym c.bounded.ensures.value) ∙ end-Some c.bounded.result.now c.in-Some.place seen)

pub returns-in-None-clause-value : goal.returns-in-None-clause-value
returns-in-None-clause-value c =
    let seen : FindsNeedle c.bounded.result.now empty_line 0 None = subst (λ (r : Option ℕ). FindsNeedle c.bounded.result.now empty_line 0 r) c.in-None.is c.find.ensures in
    sym (ap (end_behind 0) (sym c.bounded.ensures.value) ∙ end-None c.bounded.result.now seen)
