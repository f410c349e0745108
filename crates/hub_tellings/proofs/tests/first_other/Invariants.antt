use Rattle.std.proofs.Common.{◌≡◌}
use Rattle.hub_tellings.proofs.tests.first_other.Given as goal

-- there is the same room
abbrev pub invariant-loop-place : goal.invariant-loop-place
invariant-loop-place l = l.tellings.room ≡ 3
