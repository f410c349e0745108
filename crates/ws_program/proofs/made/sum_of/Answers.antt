use Rattle.ws_program.proofs.All.{arith, sum_more}
use Rattle.ws_program.proofs.made.sum_of.Goals as goal

pub octets-preserved : goal.octets-preserved
octets-preserved c =
    let more = sum_more c.args.octets.now c.octets.octet-index (omega (arith, c.octets-test.true)) in
    omega (arith, more, c.in_ok-sum.ensures.1, c.from.ensures, c.octets.invariant)
