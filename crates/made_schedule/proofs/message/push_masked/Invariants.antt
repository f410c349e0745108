use Rattle.made_schedule.proofs.Below.{◌≡◌, ◌++◌, drop, unmasked}
use Rattle.made_schedule.proofs.message.push_masked.Given as goal

abbrev pub invariant-octets : goal.invariant-octets
invariant-octets l = l.frame.items ++ unmasked l.key l.place (drop l.place l.payload) ≡ l.fn.frame.items ++ unmasked l.fn.key 0 l.fn.payload
