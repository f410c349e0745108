use Rattle.ws_program.proofs.All.{sym, note_value, net_state, backlog_at, links_grow, links_fail}
use Rattle.ws_program.proofs.report.report_links.Goals as goal

pub returns-then-not-report_accepted : goal.returns-then-not-report_accepted
returns-then-not-report_accepted g c =
    let held = backlog_at c.args.hub.now in
    let taken = (net_state c.args.net.now).taken in
    links_fail held taken c.args.watch.now.notes c.notes.place (note_value c.at.result) _ _ _ _ _ _ (sym c.at.ensures) c.notes.invariant.so_far
    c.if-not-report_accepted.ensures

pub notes-preserved : goal.notes-preserved
notes-preserved g c =
    let held = backlog_at c.args.hub.now in
    let taken = (net_state c.args.net.now).taken in
    record {
      so_far = links_grow held taken c.args.watch.now.notes c.notes.place (note_value c.at.result) _ _ _ _ _ _ (sym c.at.ensures) c.notes.invariant.so_far
          c.if-not-report_accepted.ensures;
    }
