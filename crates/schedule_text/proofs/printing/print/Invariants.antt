use Rattle.schedule_text.proofs.Below.{[], take, AllByRecursion, IsTyped, schedule_text, Puts}
use Rattle.schedule_text.proofs.printing.print.Given as goal

abbrev pub invariant-acts : goal.invariant-acts
invariant-acts g l = record {
  text : Puts (schedule_text (take l.act-index l.act-items)) [] [] (g.K.Sink.written l.fn.sink) (g.K.Sink.written l.sink) (g.K.Sink.faults l.fn.sink) (g.K.Sink.faults l.sink);
  typed : AllByRecursion IsTyped (take l.act-index l.act-items);
}
