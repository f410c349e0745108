use Rattle.upgrade_head.proofs.JudgedLemmas.{judged_unique}
use Rattle.upgrade_head.proofs.laws.one_verdict.Goals as goal

pub returns : goal.returns
returns c = judged_unique
