use Rattle.schedule_text.proofs.All.{◌≡◌, List, ℕ, ◌∷◌, decimal, subst, ◌∙◌, PutsOrFails, exit_before, then}
use Rattle.schedule_text.proofs.output.Output.number.Goals as goal

pub returns-in_err-put : goal.returns-in_err-put
returns-in_err-put g c = exit_before (decimal c.args.number) c.put.new.self.held.items c.from_residual.result c.from_residual.ensures.0 c.in_err-put.ensures

pub returns : goal.returns
returns g c =
    let digits : c.as_bytes.result.now ≡ decimal c.args.number = c.as_bytes.ensures.value ∙ c.format.ensures.text in
    subst (λ (text : List ℕ). PutsOrFails (32 ∷ text) c.args.self.now.held.items c.put-2.new.self.held.items (g.K.Sink.written c.args.sink.now) (g.K.Sink.written c.put-2.new.sink) (g.K.Sink.faults c.args.sink.now) (g.K.Sink.faults c.put-2.new.sink) c.put-2.result) digits
    (then c.as_bytes.result.now c.put-2.new.self.held.items (g.K.Sink.written c.put-2.new.sink) (g.K.Sink.faults c.put-2.new.sink) c.put-2.result c.in_ok-put.ensures c.put-2.ensures)
