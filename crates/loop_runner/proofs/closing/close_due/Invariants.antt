use Rattle.loop_runner.proofs.Below.{admits, suc, moment, KeepsOn, weight_below}
use Rattle.loop_runner.proofs.closing.close_due.Given as goal

abbrev pub invariant-closed : goal.invariant-closed
invariant-closed g l =
    let seen = moment g.N.Net g.W.Watch g.H.Handler in
    record { keeps : KeepsOn (admits l.fn.guard.rule) l.fn.intakes l.intakes (seen l.fn.hub l.fn.out l.fn.handler) (seen l.hub l.out l.handler) }

abbrev pub decreases-closed : goal.decreases-closed
decreases-closed g l = weight_below (suc l.hub.named) l.hub
