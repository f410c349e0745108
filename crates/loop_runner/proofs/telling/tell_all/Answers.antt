use Rattle.loop_runner.proofs.All.{Every, keeps_on_then, running_steps, steps_same}
use Rattle.loop_runner.proofs.telling.tell_all.Goals as goal

pub told-init : goal.told-init
told-init g c = record {
  keeps = record { running = c.requires.running; steps = steps_same Every _; kept = λ table start config views are k. (views, are, k) };
  told = λ start owed. owed;
}

pub tell_next-requires : goal.tell_next-requires
tell_next-requires g c = record { running = c.told.invariant.keeps.running }

pub told-preserved : goal.told-preserved
told-preserved g c =
    let one = c.in-Some.ensures.some in
    record {
      keeps = keeps_on_then _ _ _ _ _ _ _ c.told.invariant.keeps (record { running = running_steps Every c.args.intakes.now _ _ c.told.invariant.keeps.running one.2.steps; steps = one.2.steps; kept = one.2.kept });
      told = λ start owed. one.2.told start (c.told.invariant.told start owed);
    }
