use Rattle.std.proofs.Common.{◌≡◌}
use Rattle.hub_table.proofs.tests.come_and_go.Given as goal

abbrev pub invariant-rows : goal.invariant-rows
invariant-rows l = l.table.named ≡ l.row
