use Rattle.made_schedule.proofs.Below.{◌≡◌, ◌++◌, ◌*◌, state_after, rounds}
use Rattle.made_schedule.proofs.schedule.push_rounds.Given as goal

abbrev pub invariant-rounds : goal.invariant-rounds
invariant-rounds l = record {
  acts : l.schedule ≡ l.fn.schedule ++ rounds l.counter l.fn.seed;
  state : l.generator.state ≡ state_after (16 * l.counter) l.fn.seed;
}
