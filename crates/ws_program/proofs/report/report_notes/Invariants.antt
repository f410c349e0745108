use Rattle.ws_program.proofs.Below.{take, true, flat_map, WritesText, note_line}
use Rattle.ws_program.proofs.report.report_notes.Given as goal

abbrev pub invariant-notes : goal.invariant-notes
invariant-notes g l =
    let sink = g.K.Sink in
    record {
      so_far : WritesText (flat_map note_line (take l.place l.fn.watch.notes)) (sink.written l.fn.sink) (sink.written l.sink) (sink.faults l.fn.sink) (sink.faults l.sink) true;
    }
