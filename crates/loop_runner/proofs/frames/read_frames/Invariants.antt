use Rattle.loop_runner.proofs.Below.{admits, ◌≡◌, [], Some, length, RouteTable, ahead, phase_at, Ties, at, Every, Steps, HasFrames, view_of, moment, KeepsView}
use Rattle.frame_reader.specs.Reader.{max_of}
use Rattle.loop_runner.proofs.frames.read_frames.Given as goal

abbrev pub invariant-steps : goal.invariant-steps
invariant-steps g l =
    let seen = moment g.N.Net g.W.Watch g.H.Handler in
    record {
      frames : HasFrames (phase_at l.hub l.conn.0) l.reader;
      ties : Ties (at g.N.Net g.W.Watch l.hub l.out);
      steps : Steps Every (at g.N.Net g.W.Watch l.fn.hub l.fn.out) (at g.N.Net g.W.Watch l.hub l.out);
      max : max_of l.reader ≡ max_of l.fn.reader;
      kept : (table : RouteTable) → KeepsView (admits l.fn.guard.rule) table l.conn.0 (Some l.conn.0) (Some l.conn.0) (view_of l.fn.reader l.route l.param) (view_of l.reader l.route l.param) (seen l.fn.hub l.fn.out l.fn.handler) (seen l.hub l.out l.handler);
    }

abbrev pub decreases-steps : goal.decreases-steps
decreases-steps g l = length (ahead l.reader [])
