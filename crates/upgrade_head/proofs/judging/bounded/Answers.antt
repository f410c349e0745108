use Rattle.upgrade_head.proofs.All.{arith, sym, take_all}
use Rattle.upgrade_head.proofs.judging.bounded.Goals as goal

pub returns-then-octets-lt-MOST_OCTETS-clause-value : goal.returns-then-octets-lt-MOST_OCTETS-clause-value
returns-then-octets-lt-MOST_OCTETS-clause-value c = sym (take_all 8192 c.args.octets.now (omega arith))
