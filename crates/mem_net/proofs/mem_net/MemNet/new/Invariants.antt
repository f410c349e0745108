use Rattle.mem_net.proofs.Below.{◌≡◌, take, arrivals, new_links}
use Rattle.mem_net.proofs.mem_net.MemNet.new.Given as goal

abbrev pub invariant-acts : goal.invariant-acts
invariant-acts l = (l.numbers.items ≡ arrivals (take l.done l.fn.schedule)) × (l.links.items ≡ new_links (take l.done l.fn.schedule))
