use Rattle.loop_runner.proofs.All.{admits, refl, ◌∙◌, Every, beginning, steps_same, steps_then, keep_one_same, keep_one_then}
use Rattle.loop_runner.proofs.frames.read_frames.Goals as goal

pub steps-init : goal.steps-init
steps-init g c = record {
  frames = c.requires.frames;
  ties = c.requires.ties;
  steps = steps_same Every _;
  max = refl;
  kept = λ table start config. keep_one_same (beginning g.H.Handler (admits c.args.guard.now.rule) start config table) _ _ _ _ _;
}

pub steps-preserved : goal.steps-preserved
steps-preserved g c =
    let next = c.if-not-read_frame.ensures in
    record {
      frames = next.frames refl;
      ties = next.steps.ties c.steps.invariant.ties;
      steps = steps_then Every _ _ _ c.steps.invariant.steps next.steps;
      max = next.max ∙ c.steps.invariant.max;
      kept = λ table start config. keep_one_then (beginning g.H.Handler (admits c.args.guard.now.rule) start config table) _ _ _ _ _ _ _ _ _ _ _ _ _ (c.steps.invariant.kept table start config) (next.kept table start config);
    }

pub returns-then-not-read_frame-clause-steps : goal.returns-then-not-read_frame-clause-steps
returns-then-not-read_frame-clause-steps g c = steps_then Every _ _ _ c.steps.invariant.steps c.if-not-read_frame.ensures.steps

pub returns-then-not-read_frame-clause-kept : goal.returns-then-not-read_frame-clause-kept
returns-then-not-read_frame-clause-kept g c = λ table start config.
    keep_one_then (beginning g.H.Handler (admits c.args.guard.now.rule) start config table) _ _ _ _ _ _ _ _ _ _ _ _ _ (c.steps.invariant.kept table start config) (c.if-not-read_frame.ensures.kept table start config)
