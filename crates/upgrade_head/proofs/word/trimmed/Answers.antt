use Rattle.upgrade_head.proofs.All.{◌≡◌, ℕ, List, length, reverse, slice_range, sym, ap, ◌∙◌, arith, reverse-reverse, skip_ows, trim_ows, skip_ows_yes, skip_ows_no, slice_first, slice_last, slice_empty}
use Rattle.upgrade_head.proofs.word.trimmed.Goals.{then-front-test+else-is_blank, else-front-test, then-back-test+else-is_blank-2, else-back-test}
use Rattle.upgrade_head.proofs.word.trimmed.Goals as goal

pub back-init : goal.back-init
unfolding trim_ows
back-init c =
    let octets = c.args.octets.now in
    let here = slice_range octets c.front.start (length octets) in
    let stays : skip_ows here ≡ here =
    elim c.front-test.branch [
      | then-front-test+else-is_blank w ↦ skip_ows_no (slice_first octets c.front.start (length octets) w.front-test.true (omega arith)) w.if-is_blank.ensures
      | else-front-test w ↦
          let empty = slice_empty octets c.front.start (length octets) (omega arith) (omega arith) in
          ap skip_ows empty ∙ sym empty
    ] in (
      omega arith,
      omega arith,
      ap (λ (t : List ℕ). reverse (skip_ows (reverse t))) (c.front.invariant.1 ∙ stays),
    )

pub back-preserved : goal.back-preserved
back-preserved c =
    let last = slice_last c.args.octets.now c.front.start c.back.end c.back-test.true (omega arith) in (
      omega arith,
      omega arith,
      c.back.invariant.2 ∙ ap reverse (skip_ows_yes last c.if-is_blank-2.ensures),
    )

pub returns : goal.returns
returns c =
    let octets = c.args.octets.now in
    let here = slice_range octets c.front.start c.back.end in
    let stays : reverse (skip_ows (reverse here)) ≡ here =
    elim c.back-test.branch [
      | then-back-test+else-is_blank-2 w ↦ ap reverse (skip_ows_no (slice_last octets c.front.start c.back.end w.back-test.true (omega arith)) w.if-is_blank-2.ensures) ∙ reverse-reverse here
      | else-back-test w ↦
          let empty = slice_empty octets c.front.start c.back.end (omega arith) (omega arith) in
          ap (λ (t : List ℕ). reverse (skip_ows (reverse t))) empty ∙ sym empty
    ] in
    sym (c.back.invariant.2 ∙ stays)
