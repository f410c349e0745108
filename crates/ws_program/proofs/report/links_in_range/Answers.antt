use Rattle.ws_program.proofs.All.{sym, note_value, net_state, backlog_at, links_more}
use Rattle.ws_program.proofs.report.links_in_range.Goals as goal

pub notes-preserved : goal.notes-preserved
notes-preserved c = links_more (backlog_at c.args.hub.now) (net_state c.args.net.now).taken c.args.watch.now.notes c.notes.place (note_value c.at.result) (sym c.at.ensures) c.notes.invariant c.link_in_range.ensures
