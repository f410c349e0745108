use Rattle.loop_runner.proofs.All.{◌≡◌, [], rules, ready_new}
use Rattle.loop_runner.proofs.tests.run_with.Goals as goal

pub run-ran-requires : goal.run-ran-requires
run-ran-requires g c = ready_new c.new-intakes.result _ _ _ (search rules) (search rules) (search rules) (search rules) c.new-intakes.ensures.none
