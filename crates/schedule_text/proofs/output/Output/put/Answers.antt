use Rattle.schedule_text.proofs.All.{List, ℕ, [], subst, sym, Puts, Fails, PutsOrFails, exit_before, then}
use Rattle.schedule_text.proofs.output.Output.put.Goals as goal

pub returns-in_err-flush : goal.returns-in_err-flush
returns-in_err-flush g c =
    let fails = subst (λ (held : List ℕ). Fails [] held (g.K.Sink.written c.args.sink.now) (g.K.Sink.written c.flush.new.sink) (g.K.Sink.faults c.args.sink.now) (g.K.Sink.faults c.flush.new.sink)) c.if-hold.ensures c.in_err-flush.ensures.written in
    exit_before {s = []} c.args.octets.now c.flush.new.self.held.items c.from_residual.result c.from_residual.ensures.0 fails

pub returns : goal.returns
returns g c =
    let puts = subst (λ (held : List ℕ). Puts [] held [] (g.K.Sink.written c.args.sink.now) (g.K.Sink.written c.flush.new.sink) (g.K.Sink.faults c.args.sink.now) (g.K.Sink.faults c.flush.new.sink)) c.if-hold.ensures c.in_ok-flush.ensures.written in
    subst (λ (held : List ℕ). PutsOrFails c.args.octets.now c.args.self.now.held.items held (g.K.Sink.written c.args.sink.now) (g.K.Sink.written c.send.new.sink) (g.K.Sink.faults c.args.sink.now) (g.K.Sink.faults c.send.new.sink) c.send.result) (sym c.in_ok-flush.ensures.empty)
    (then {s = []} c.args.octets.now [] (g.K.Sink.written c.send.new.sink) (g.K.Sink.faults c.send.new.sink) c.send.result puts c.send.ensures)
