use Rattle.schedule_text.proofs.All.{subst, sym, Last, hex, PutsOrFails, last_text, exit_before, then}
use Rattle.schedule_text.proofs.output.Output.last.Goals as goal

pub returns-in_err-put-in-Word : goal.returns-in_err-put-in-Word
returns-in_err-put-in-Word g c =
    subst (λ (last : Last). PutsOrFails (last_text last) c.args.self.now.held.items c.put.new.self.held.items (g.K.Sink.written c.args.sink.now) (g.K.Sink.written c.put.new.sink) (g.K.Sink.faults c.args.sink.now) (g.K.Sink.faults c.put.new.sink) c.from_residual.result)
    (sym c.in-Word.is)
    (exit_before c.in-Word.word.now c.put.new.self.held.items c.from_residual.result c.from_residual.ensures.0 c.in_err-put-in-Word.ensures)

pub returns-in_err-put-in-Hex : goal.returns-in_err-put-in-Hex
returns-in_err-put-in-Hex g c =
    subst (λ (last : Last). PutsOrFails (last_text last) c.args.self.now.held.items c.put-in-Hex.new.self.held.items (g.K.Sink.written c.args.sink.now) (g.K.Sink.written c.put-in-Hex.new.sink) (g.K.Sink.faults c.args.sink.now) (g.K.Sink.faults c.put-in-Hex.new.sink) c.from_residual-in_err-put-in-Hex.result)
    (sym c.in-Hex.is)
    (exit_before (hex c.in-Hex.octets.now) c.put-in-Hex.new.self.held.items c.from_residual-in_err-put-in-Hex.result c.from_residual-in_err-put-in-Hex.ensures.0 c.in_err-put-in-Hex.ensures)

pub returns-in_ok-put-in-Word : goal.returns-in_ok-put-in-Word
returns-in_ok-put-in-Word g c =
    subst (λ (last : Last). PutsOrFails (last_text last) c.args.self.now.held.items c.put-in-Word.new.self.held.items (g.K.Sink.written c.args.sink.now) (g.K.Sink.written c.put-in-Word.new.sink) (g.K.Sink.faults c.args.sink.now) (g.K.Sink.faults c.put-in-Word.new.sink) c.put-in-Word.result)
    (sym c.in-Word.is)
    (then c.in-Word.word.now c.put-in-Word.new.self.held.items (g.K.Sink.written c.put-in-Word.new.sink) (g.K.Sink.faults c.put-in-Word.new.sink) c.put-in-Word.result c.in_ok-put-in-Word.ensures c.put-in-Word.ensures)

pub returns-in_ok-put-in-Hex : goal.returns-in_ok-put-in-Hex
returns-in_ok-put-in-Hex g c =
    subst (λ (last : Last). PutsOrFails (last_text last) c.args.self.now.held.items c.hex.new.self.held.items (g.K.Sink.written c.args.sink.now) (g.K.Sink.written c.hex.new.sink) (g.K.Sink.faults c.args.sink.now) (g.K.Sink.faults c.hex.new.sink) c.hex.result)
    (sym c.in-Hex.is)
    (then (hex c.in-Hex.octets.now) c.hex.new.self.held.items (g.K.Sink.written c.hex.new.sink) (g.K.Sink.faults c.hex.new.sink) c.hex.result c.in_ok-put-in-Hex.ensures c.hex.ensures)
