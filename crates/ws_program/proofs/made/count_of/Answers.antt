use Rattle.ws_program.proofs.All.{◌∙◌, ◌+◌, cond, ap, sym, take, arith, note_value, number_of, count_more}
use Rattle.ws_program.proofs.Below.{is_counted}
use Rattle.ws_program.proofs.made.count_of.Goals as goal
use Rattle.ws_program.proofs.made.count_of.Goals.{then-counts, else-counts}

pub notes-preserved : goal.notes-preserved
notes-preserved c =
    let p = is_counted c.args.counted in
    let ns = c.args.watch.now.notes in
    let before = number_of (is_counted c.args.counted) (take c.notes.place c.args.watch.now.notes) in
    let more = count_more p ns c.notes.place (note_value c.at.result) (sym c.at.ensures) in
    elim c.if-counts.branch [
      | then-counts w ↦
          let after = more ∙ ap (λ b. before + cond b 1 0) (sym c.counts.ensures ∙ w.if-counts.true) in
          record { so_far = omega (arith, after, w.count-is, c.notes.invariant.so_far); few = omega (arith, w.count-is, c.notes.invariant.few) }
      | else-counts w ↦
          let after = more ∙ ap (λ b. before + cond b 1 0) (sym c.counts.ensures ∙ w.if-counts.false) in
          record { so_far = omega (arith, after, w.count-is, c.notes.invariant.so_far); few = omega (arith, w.count-is, c.notes.invariant.few) }
    ]
