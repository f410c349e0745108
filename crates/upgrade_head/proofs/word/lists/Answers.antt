use Rattle.upgrade_head.proofs.All.{ℕ, Bool, List, ◌+◌, drop, slice_range, sym, ap, ◌∙◌, arith, list_any, nat_tests, is_element, parts_after, after_comma, after_other}
use Rattle.upgrade_head.proofs.word.lists.Goals.{then-value-i-eq44+else-is_element, else-value-i-eq44}
use Rattle.upgrade_head.proofs.word.lists.Goals as goal

pub loop-i-preserved : goal.loop-i-preserved
loop-i-preserved c =
    let test : List ℕ → Bool = is_element c.args.letters c.args.word.now in
    let value = c.args.value.now in
    let i = c.loop-i.i in
    let moved = λ (s : ℕ). list_any test (parts_after (slice_range value s (i + 1)) (drop (i + 1) value)) in
    elim c.if-value-i-eq44.branch [
      | then-value-i-eq44+else-is_element w ↦ record {
        ordered = omega arith;
        same = c.loop-i.invariant.same ∙ after_comma test value c.loop-i.start i (omega arith) w.if-value-i-eq44.true (sym w.is_element.ensures ∙ w.if-is_element.false) ∙ ap moved (sym w.start-is);
      }
      | else-value-i-eq44 w ↦ record {
        ordered = omega arith;
        same = c.loop-i.invariant.same ∙ ap (list_any test) (after_other test value c.loop-i.start i (omega arith) (omega arith) (grind (arith, nat_tests))) ∙ ap moved (sym w.start-is);
      }
    ]
