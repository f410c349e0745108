use Rattle.made_schedule.proofs.Below.{◌≡◌, ◌++◌, state_after, messages}
use Rattle.made_schedule.proofs.schedule.push_round.Given as goal

abbrev pub invariant-messages : goal.invariant-messages
invariant-messages l = record {
  acts : l.schedule ≡ l.fn.schedule ++ messages l.counter l.fn.generator.state;
  state : l.generator.state ≡ state_after l.counter l.fn.generator.state;
}
