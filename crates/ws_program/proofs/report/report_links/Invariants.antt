use Rattle.ws_program.proofs.Below.{take, true, net_state, WritesText, backlog_at, links_of, all_link_lines}
use Rattle.ws_program.proofs.report.report_links.Given as goal

abbrev pub invariant-notes : goal.invariant-notes
invariant-notes g l =
    let sink = g.K.Sink in
    record {
      so_far : WritesText (all_link_lines (links_of (backlog_at l.fn.hub) (net_state l.fn.net).taken (take l.place l.fn.watch.notes))) (sink.written l.fn.sink) (sink.written l.sink) (sink.faults l.fn.sink) (sink.faults l.sink) true;
    }
