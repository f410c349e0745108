use Rattle.frame_reader.proofs.All.{arith, unmasked_set}
use Rattle.frame_reader.proofs.mask.unmask.Goals as goal

pub loop-octet-preserved : goal.loop-octet-preserved
loop-octet-preserved c = record {
  turn = omega arith;
  done = unmasked_set c.args.key c.loop-octet.octets _ c.loop-octet.at c.loop-octet.octet-index c.loop-octet.invariant.turn (omega arith) c.loop-octet.invariant.done;
}
