use Rattle.hub_core.proofs.All.{option_map, parting_value, appends_taken, hub_taken, ties_taken}
use Rattle.hub_core.proofs.hub.Hub.next_closed.Goals as goal

pub returns-clause-appends : goal.returns-clause-appends
returns-clause-appends c = rw (← c.self.view_is) (λ net told. appends_taken (option_map parting_value c.next_closed.result) c.self.inside.table c.next_closed.new.self c.self.inside.topics c.self.inside.tellings net told c.next_closed.ensures.takes)

pub returns-clause-ties : goal.returns-clause-ties
returns-clause-ties c = rw (← c.self.view_is) (λ net told. ties_taken (option_map parting_value c.next_closed.result) c.self.inside.table c.next_closed.new.self c.self.inside.topics c.self.inside.tellings net told c.next_closed.ensures.takes)

pub invariant_of-self : goal.invariant_of-self
invariant_of-self c = hub_taken (option_map parting_value c.next_closed.result) c.self.inside.table c.next_closed.new.self c.self.inside.topics c.self.inside.tellings c.next_closed.ensures.takes c.next_closed.ensures.table c.self.invariant
