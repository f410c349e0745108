-- The verdict on the head of a request.
use Rattle.upgrade_head.specs.Judged.{Verdict, more, admit, refuse}
use Rattle.loop_runner.specs.declared.admitting.Decision.{Decision}
use Rattle.loop_runner.specs.declared.admitting.Decision.TheVariants.{More, Refuse, Admit}

-- the verdict that was decided
abbrev pub decision_seen : Decision → Verdict
decision_seen More = more
decision_seen (Refuse status) = refuse status
decision_seen (Admit admission) = admit admission.end admission.route admission.param.items admission.accept admission.protocol
