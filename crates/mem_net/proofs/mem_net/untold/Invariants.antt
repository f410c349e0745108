use Rattle.mem_net.proofs.Below.{◌≡◌, false, take, list_any, is_untold}
use Rattle.mem_net.proofs.mem_net.untold.Given as goal

abbrev pub invariant-links : goal.invariant-links
invariant-links l = list_any is_untold (take l.place l.links) ≡ false
