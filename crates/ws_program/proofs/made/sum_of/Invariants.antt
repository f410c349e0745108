use Rattle.ws_program.proofs.Below.{◌≡◌, take, total}
use Rattle.ws_program.proofs.made.sum_of.Given as goal

abbrev pub invariant-octets : goal.invariant-octets
invariant-octets l = l.sum ≡ total (take l.octet-index l.fn.octets)
