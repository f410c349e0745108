use Rattle.run_laws.proofs.Calling.{call_plain, call_marked}
use Rattle.run_laws.proofs.following.after_a_call.Goals as goal

pub returns-clause-plain : goal.returns-clause-plain
returns-clause-plain c = call_plain

pub returns-clause-marked : goal.returns-clause-marked
returns-clause-marked c = call_marked
