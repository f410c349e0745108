use Rattle.ws_program.proofs.All.{reported}
use Rattle.ws_program.proofs.replay.replay_schedule.Goals as goal

pub returns-then-report : goal.returns-then-report
returns-then-report g c = (_, reported c.in-Ok.ensures, c.if-report.ensures)

pub returns : goal.returns
returns g c = (_, reported c.in-Ok.ensures, c.if-report.ensures)
