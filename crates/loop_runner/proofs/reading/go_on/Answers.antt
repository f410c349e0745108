use Rattle.loop_runner.proofs.All.{admits, List, ℕ, Some, None, ◌∙◌, subst, at, beginning, view_of, KeepsOne, steps_but}
use Rattle.loop_runner.proofs.reading.go_on.Goals as goal

pub returns-clause-takes : goal.returns-clause-takes
returns-clause-takes g c = record {
  steps = steps_but c.args.conn.0 _ _ c.read_frames.ensures.steps;
  asked = λ reads. c.read_frames.ensures.steps.due c.args.conn.0 (tt {0}) reads ∙ c.requires.asked;
  taken = c.read_frames.ensures.taken;
  max = c.read_frames.ensures.max;
}

pub returns-clause-kept : goal.returns-clause-kept
returns-clause-kept g c = λ table start config.
    subst (λ (z : List ℕ). KeepsOne (beginning g.H.Handler (admits c.args.guard.now.rule) start config table) c.args.conn.0 (Some c.args.conn.0) None (view_of c.args.intake.now.reader c.args.intake.now.route z) (view_of c.read_frames.new.reader c.args.intake.now.route z)
    (at g.N.Net g.W.Watch c.args.hub.now c.args.out.now) (g.H.Handler.state c.args.handler.now) (at g.N.Net g.W.Watch c.read_frames.new.hub c.read_frames.new.out) (g.H.Handler.state c.read_frames.new.handler))
    c.as_slice.ensures.value (c.read_frames.ensures.kept table start config)
