use Rattle.std.proofs.Common.{◌≡◌}
use Rattle.mio_net.specs.State.{state_of}
use Rattle.mio_net.proofs.sockets.Sockets.tell_next.Given as goal

abbrev pub invariant-reports : goal.invariant-reports
invariant-reports l = state_of l.self ≡ state_of l.fn.self
