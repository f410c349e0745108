use Rattle.schedule_text.proofs.All.{arith, Some, Decides-eqb, strip_prefix_is, header, only_text, only_refusal}
use Rattle.schedule_text.proofs.reading.read.Goals as goal

pub returns-clause-every_text : goal.returns-clause-every_text
returns-clause-every_text c = λ acts text.
    only_text c.args.octets.now acts c.read_acts.result text (c.read_acts.ensures c.args.octets.now (omega arith) (strip_prefix_is Decides-eqb c.args.octets.now header (Some c.in-Some.lines) c.in-Some.ensures.cases))

pub returns-clause-every_fault : goal.returns-clause-every_fault
returns-clause-every_fault c = λ line fault refused.
    only_refusal c.args.octets.now line fault c.read_acts.result refused (c.read_acts.ensures c.args.octets.now (omega arith) (strip_prefix_is Decides-eqb c.args.octets.now header (Some c.in-Some.lines) c.in-Some.ensures.cases))
