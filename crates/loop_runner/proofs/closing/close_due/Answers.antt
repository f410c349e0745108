use Rattle.loop_runner.proofs.All.{Every, keeps_on_then, steps_same}
use Rattle.loop_runner.proofs.closing.close_due.Goals as goal

pub closed-init : goal.closed-init
closed-init g c = record { keeps = record { running = c.requires.running; steps = steps_same Every _; kept = λ table start config views are k. (views, are, k) } }

pub closed-preserved : goal.closed-preserved
closed-preserved g c = record { keeps = keeps_on_then _ _ _ _ _ _ _ c.closed.invariant.keeps c.close_next.ensures.keeps }

pub returns-then-not-close_next-clause-keeps : goal.returns-then-not-close_next-clause-keeps
returns-then-not-close_next-clause-keeps g c = keeps_on_then _ _ _ _ _ _ _ c.closed.invariant.keeps c.close_next.ensures.keeps
