use Rattle.run_meaning.proofs.OrderedLemmas.{event_lines, event_state, event_ordered}
use Rattle.run_meaning.proofs.step_laws.orders_are_answered.Goals as goal

pub returns : goal.returns
returns g c = record {
  lines = λ s f before n e sending xs at out ends all d. event_lines s f before n e sending xs at out ends all d;
  state = λ s f before n e sending xs at out ends all. event_state s f before n e sending xs at out ends all;
  ordered = λ s f before n e sending xs at out ends all ordered. event_ordered s f before n e sending xs at out ends all ordered;
}
