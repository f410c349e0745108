use Rattle.upgrade_head.proofs.JudgedLemmas.{judged_stays}
use Rattle.upgrade_head.proofs.laws.verdict_stays.Goals as goal

pub returns : goal.returns
returns c = judged_stays
