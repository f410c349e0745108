use Rattle.made_schedule.proofs.Below.{◌≡◌, ◌++◌, drop, hex}
use Rattle.made_schedule.proofs.message.push_digits.Given as goal

abbrev pub invariant-octets : goal.invariant-octets
invariant-octets l = l.text.items ++ hex (drop l.octet-index l.octets) ≡ l.fn.text.items ++ hex l.fn.octets
