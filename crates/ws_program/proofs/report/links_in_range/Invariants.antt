use Rattle.ws_program.proofs.Below.{take, net_state, backlog_at, links_of, AreLinks}
use Rattle.ws_program.proofs.report.links_in_range.Given as goal

abbrev pub invariant-notes : goal.invariant-notes
invariant-notes l = AreLinks (links_of (backlog_at l.fn.hub) (net_state l.fn.net).taken (take l.place l.fn.watch.notes))
