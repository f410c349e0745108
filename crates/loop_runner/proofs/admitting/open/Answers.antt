use Rattle.loop_runner.proofs.All.{List, ℕ, subst, rules, at, steps_opened, opened_phase, opened_due}
use Rattle.loop_runner.proofs.admitting.open.Goals as goal

pub returns-clause-steps : goal.returns-clause-steps
returns-clause-steps g c = steps_opened _ _ _ _ _ _ _ c.admit.ensures c.give.ensures.steps

pub returns-clause-due : goal.returns-clause-due
returns-clause-due g c = opened_due _ _ _ _ _ _ _ c.admit.ensures c.give.ensures.steps

pub returns-clause-entered : goal.returns-clause-entered
returns-clause-entered g c = opened_phase _ _ _ _ _ _ _ c.admit.ensures c.give.ensures.steps c.requires.phase

pub returns-clause-opens : goal.returns-clause-opens
returns-clause-opens g c = record {
  between = at g.N.Net g.W.Watch c.admit.new.self c.admit.new.out;
  proceeds = search rules;
  appends = search rules;
  state = search rules;
  served = search rules;
}
