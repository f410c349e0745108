use Rattle.hub_core.proofs.All.{rules, server, finishes_empty, passes_over, leave_lines, same_elsewhere}
use Rattle.hub_core.proofs.hub.Hub.finish.Goals as goal

pub returns-then-held-eq0-clause-finishes : goal.returns-then-held-eq0-clause-finishes
returns-then-held-eq0-clause-finishes g c = finishes_empty c.leave.ensures c.requires.ending (search rules)

pub returns-else-held-eq0-clause-finishes : goal.returns-else-held-eq0-clause-finishes
returns-else-held-eq0-clause-finishes g c = passes_over c.args.conn.0 (server c.args.self.now (g.N.Net.state c.args.out.now.net) (g.W.Watch.told c.args.out.now.watch)) (search rules)

pub returns-then-held-eq0-clause-elsewhere : goal.returns-then-held-eq0-clause-elsewhere
returns-then-held-eq0-clause-elsewhere g c = leave_lines c.leave.ensures.leaves

pub returns-else-held-eq0-clause-elsewhere : goal.returns-else-held-eq0-clause-elsewhere
returns-else-held-eq0-clause-elsewhere g c = same_elsewhere c.args.conn.0 (server c.args.self.now (g.N.Net.state c.args.out.now.net) (g.W.Watch.told c.args.out.now.watch))
