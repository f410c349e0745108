use Rattle.run_told.proofs.All.{◌≡◌, [], ◌∷◌, Bool, Some, true, false, refl, sym, ap, ◌∙◌, arith, clash, can_drop, reply, whole, Pong}
use Rattle.run_told.proofs.rows.some_drops_are_fair.Goals as goal

pub returns : goal.returns
returns c = record {
  over = record { item = whole Pong []; is = refl; droppable = refl; once = refl; over = omega arith; short = refl; amount = refl };
  at_limit = λ x. let over = x.over in absurd (omega arith);
  taken = λ limit x. clash false refl x.short;
  reply = λ limit x.
      let is : reply (1 ∷ 2 ∷ 3 ∷ []) ≡ x.item = let z : Some (reply (1 ∷ 2 ∷ 3 ∷ [])) ≡ Some x.item = x.is in cc in
      clash false refl (ap can_drop is ∙ x.droppable);
}
