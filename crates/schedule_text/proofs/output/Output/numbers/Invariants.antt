use Rattle.schedule_text.proofs.Below.{◌∷◌, take, decimal, flat_map, Puts}
use Rattle.schedule_text.proofs.output.Output.numbers.Given as goal

abbrev pub invariant-numbers : goal.invariant-numbers
invariant-numbers g l = Puts (flat_map (λ number. 32 ∷ decimal number) (take l.number-index l.numbers)) l.fn.self.held.items l.self.held.items (g.K.Sink.written l.fn.sink) (g.K.Sink.written l.sink) (g.K.Sink.faults l.fn.sink) (g.K.Sink.faults l.sink)
