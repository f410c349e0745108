use Rattle.loop_runner.proofs.Below.{admits, ◌-◌, Server, TellsTo, KeepsOn, moment, at}
use Rattle.loop_runner.proofs.telling.tell_all.Given as goal

abbrev pub invariant-told : goal.invariant-told
invariant-told g l =
    let seen = moment g.N.Net g.W.Watch g.H.Handler in
    record {
      keeps : KeepsOn (admits l.fn.guard.rule) l.fn.intakes l.fn.intakes (seen l.fn.hub l.fn.out l.fn.handler) (seen l.hub l.out l.handler);
      told : (start : Server) → TellsTo 0 start (at g.N.Net g.W.Watch l.fn.hub l.fn.out) → TellsTo l.after.0 start (at g.N.Net g.W.Watch l.hub l.out);
    }

abbrev pub decreases-told : goal.decreases-told
decreases-told g l = l.hub.named - l.after.0
