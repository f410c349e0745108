use Rattle.loop_runner.proofs.Below.{admits, ◌≡◌, ℕ, None, at, due_at, AreThere, moment, IsKeptThen, Every, Grows, NotesTurns, RisesBeyond, Running, WhereKept, PassesBetween, TellsAll}
use Rattle.loop_runner.proofs.turn.run_turn.Given as goal

abbrev pub invariant-events : goal.invariant-events
invariant-events g l =
    let old = moment g.N.Net g.W.Watch g.H.Handler l.fn.hub l.fn.out l.fn.handler in
    let new = moment g.N.Net g.W.Watch g.H.Handler l.hub l.out l.handler in
    record {
      running : Running Every l.intakes (at g.N.Net g.W.Watch l.hub l.out);
      none : (conn : ℕ) → due_at l.hub conn ≡ None;
      there : AreThere (at g.N.Net g.W.Watch l.fn.hub l.fn.out) → AreThere (at g.N.Net g.W.Watch l.hub l.out);
      told : TellsAll (at g.N.Net g.W.Watch l.fn.hub l.fn.out) (at g.N.Net g.W.Watch l.hub l.out);
      passed : PassesBetween (g.N.Net.state l.fn.out.net) (g.N.Net.state l.out.net);
      grows : Grows (at g.N.Net g.W.Watch l.fn.hub l.fn.out) (at g.N.Net g.W.Watch l.hub l.out);
      turns : NotesTurns 0 (g.W.Watch.told l.fn.out.watch) (g.W.Watch.told l.out.watch);
      links : RisesBeyond 0 0 (at g.N.Net g.W.Watch l.fn.hub l.fn.out) (at g.N.Net g.W.Watch l.hub l.out);
      kept : WhereKept (admits l.fn.guard.rule) l.fn.routes l.fn.intakes old new (IsKeptThen l.intakes new);
    }

abbrev pub decreases-events : goal.decreases-events
decreases-events g l = (g.N.Net.state l.out.net).room
