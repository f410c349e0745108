use Rattle.made_schedule.proofs.All.{◌+◌, ◌++◌, ◌∙◌, ap, sym, refl, state_after, round, rounds, no_step, no_rounds, round_more, rounds_more, put_more, put_none}
use Rattle.made_schedule.proofs.schedule.push_rounds.Goals as goal

pub rounds-init : goal.rounds-init
rounds-init c = record {
  acts = put_none c.args.schedule.now (rounds 0 c.args.seed) (no_rounds c.args.seed);
  state = sym (no_step c.args.seed);
}

pub rounds-preserved : goal.rounds-preserved
rounds-preserved c = record {
  acts =
      put_more c.args.schedule.now c.rounds.schedule c.push_round.new.schedule (round c.rounds.generator.state) (rounds c.rounds.counter c.args.seed) c.in_ok-push_round.ensures.acts c.rounds.invariant.acts
      ∙ ap (λ state. c.args.schedule.now ++ (rounds c.rounds.counter c.args.seed ++ round state)) c.rounds.invariant.state
      ∙ ap (λ l. c.args.schedule.now ++ l) (sym (rounds_more c.rounds.counter c.args.seed));
  state = c.in_ok-push_round.ensures.state ∙ ap (state_after 16) c.rounds.invariant.state ∙ sym (round_more c.rounds.counter 16 16 c.args.seed refl);
}
