use Rattle.ws_program.proofs.EventLemmas.{next_step}
use Rattle.ws_program.proofs.echo.answer_next.Goals as goal

pub returns-clause-next : goal.returns-clause-next
returns-clause-next g c = next_step c.answer.result c.next.result c.args.reader.now c.next.follows.lender-at-none _ _ _ _ c.next.follows.holds-at-none c.answer.ensures.step
