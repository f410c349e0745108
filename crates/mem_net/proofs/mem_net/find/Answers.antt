use Rattle.mem_net.proofs.Places.{found_none}
use Rattle.mem_net.proofs.mem_net.find.Goals as goal

pub returns-clause-none : goal.returns-clause-none
returns-clause-none c = rw c.ok.ensures.value (found_none c.args.numbers.now c.args.conn.0 c.binary_search.result c.requires c.binary_search.ensures.position)
