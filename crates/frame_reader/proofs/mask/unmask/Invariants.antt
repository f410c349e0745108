use Rattle.frame_reader.proofs.Below.{◌≡◌, ◌<◌, ◌++◌, take, drop, unmasked}
use Rattle.frame_reader.proofs.mask.unmask.Given as goal

abbrev pub invariant-loop-octet : goal.invariant-loop-octet
invariant-loop-octet l = record {
  turn : l.at < 4;
  done : take l.octet-index l.octets ++ unmasked l.key l.at (drop l.octet-index l.octets) ≡ unmasked l.fn.key l.fn.place l.fn.octets;
}
