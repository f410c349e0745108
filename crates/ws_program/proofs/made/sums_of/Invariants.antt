use Rattle.ws_program.proofs.Below.{◌≡◌, take, gather, accepted_by, net_state, count_at, sums_over}
use Rattle.ws_program.proofs.made.sums_of.Given as goal

abbrev pub invariant-notes : goal.invariant-notes
invariant-notes l = l.sums ≡ sums_over (count_at l.fn.hub) (net_state l.fn.net).taken (gather accepted_by (take l.place l.fn.watch.notes))
