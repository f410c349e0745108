use Rattle.loop_runner.proofs.All.{running_tidied, Every}
use Rattle.loop_runner.proofs.closing.close_all.Goals as goal

pub returns-clause-keeps : goal.returns-clause-keeps
returns-clause-keeps g c =
    let due = c.close_due.ensures.keeps in
    let tidy = c.tidy.ensures in
    record {
      running = running_tidied Every _ _ _ due.running tidy.entries tidy.max tidy.kept;
      steps = due.steps;
      kept = λ table start config views are k. let x = due.kept table start config views are k in (x.0, tidy.views x.0 x.1, x.2);
    }
