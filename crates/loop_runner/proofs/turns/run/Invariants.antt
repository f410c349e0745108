use Rattle.loop_runner.proofs.Below.{admits, [], moment, MakesTurns, PassesTurns}
use Rattle.loop_runner.proofs.turns.run.Given as goal

abbrev pub invariant-turns : goal.invariant-turns
invariant-turns g l =
    let seen = moment g.N.Net g.W.Watch g.H.Handler in
    record {
      passed : PassesTurns l.turn [] (g.N.Net.state l.fn.out.net) (g.N.Net.state l.out.net);
      made : MakesTurns (admits l.fn.guard.rule) l.fn.routes l.turn l.fn.intakes l.intakes (seen l.fn.hub l.fn.out l.fn.handler) (seen l.hub l.out l.handler);
    }
