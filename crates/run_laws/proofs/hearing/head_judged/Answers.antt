use Rattle.run_laws.proofs.HearLemmas.{head_waits, head_refused, head_admitted}
use Rattle.run_laws.proofs.hearing.head_judged.Goals as goal

pub returns : goal.returns
returns c = record { waits = head_waits; refused = head_refused; admitted = head_admitted }
