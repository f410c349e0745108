use Rattle.schedule_text.proofs.Below.{take, hex, Puts}
use Rattle.schedule_text.proofs.output.Output.hex.Given as goal

abbrev pub invariant-octets : goal.invariant-octets
invariant-octets g l = Puts (hex (take l.octet-index l.octets)) l.fn.self.held.items l.self.held.items (g.K.Sink.written l.fn.sink) (g.K.Sink.written l.sink) (g.K.Sink.faults l.fn.sink) (g.K.Sink.faults l.sink)
