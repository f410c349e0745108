use Rattle.schedule_text.proofs.Reported.{one_to_one}
use Rattle.schedule_text.proofs.report.one_report.Goals as goal

pub returns : goal.returns
returns c = one_to_one
