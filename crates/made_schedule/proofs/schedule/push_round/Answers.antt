use Rattle.made_schedule.proofs.All.{◌≡◌, ◌+◌, ◌++◌, ◌∷◌, [], ◌∙◌, ap, sym, next_state, state_after, message, messages, no_step, no_messages, step_more, message_more, put_more, put_none}
use Rattle.made_schedule.proofs.schedule.push_round.Goals as goal

pub messages-init : goal.messages-init
messages-init c = record {
  acts = put_none c.args.schedule.now (messages 0 c.args.generator.now.state) (no_messages c.args.generator.now.state);
  state = sym (no_step c.args.generator.now.state);
}

pub messages-preserved : goal.messages-preserved
messages-preserved c =
    let given : c.in_ok-message.field-0 ≡ message (next_state (state_after c.messages.counter c.args.generator.now.state)) =
    c.in_ok-message.ensures ∙ ap message (c.step.ensures.answer ∙ ap next_state c.messages.invariant.state) in
    record {
      acts =
          put_more c.args.schedule.now c.messages.schedule c.push.new.self (c.in_ok-message.field-0 ∷ []) (messages c.messages.counter c.args.generator.now.state) c.in_ok-push.ensures.pushed c.messages.invariant.acts
          ∙ ap (λ one. c.args.schedule.now ++ (messages c.messages.counter c.args.generator.now.state ++ one ∷ [])) given
          ∙ ap (λ l. c.args.schedule.now ++ l) (sym (message_more c.messages.counter c.args.generator.now.state));
      state = c.step.ensures.state ∙ ap next_state c.messages.invariant.state ∙ sym (step_more c.messages.counter c.args.generator.now.state);
    }
