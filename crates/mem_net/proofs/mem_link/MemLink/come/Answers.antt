use Rattle.mem_net.proofs.All.{sym, drop-drop, came_more}
use Rattle.mem_net.proofs.mem_link.MemLink.come.Goals as goal

pub returns-clause-came : goal.returns-clause-came
returns-clause-came c =
    let octets = c.self.inside.octets.items in
    let came = c.self.inside.came in
    let moved = came_more octets c.self.inside.read came c.args.count c.self.invariant.0 c.self.invariant.1 in
    let left = sym (drop-drop c.args.count came octets) in
    rw (← c.self.view_is) (rw (moved, left))
