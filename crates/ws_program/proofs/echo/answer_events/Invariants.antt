use Rattle.ws_program.proofs.Below.{◌≡◌, List, [], length, TellsAlike, Event, ahead, AreShort, Answers, GoesOn}
use Rattle.ws_program.proofs.echo.answer_events.Given as goal

abbrev pub invariant-events : goal.invariant-events
invariant-events g l = record {
  told : (events : List Event) × Answers l.fn.reader l.reader events (g.K.Sink.written l.fn.sink) (g.K.Sink.written l.sink) l.fn.answers l.answers × GoesOn l.fn.reader l.reader events;
  short : AreShort 65536 (ahead l.reader []);
  tells : TellsAlike (g.K.Sink.written l.fn.sink) (g.K.Sink.written l.sink);
  unfailing : g.K.Sink.faults l.sink ≡ g.K.Sink.faults l.fn.sink;
}

abbrev pub decreases-events : goal.decreases-events
decreases-events g l = length (ahead l.reader [])
