use Rattle.upgrade_head.proofs.All.{sym, ◌∙◌, before-Some, before-None}
use Rattle.upgrade_head.proofs.judging.path_of.Goals as goal

pub returns-in-Some : goal.returns-in-Some
returns-in-Some c = before-Some _ c.args.target.now c.in-Some.place (sym c.question_mark.ensures.place ∙ c.in-Some.is)

pub returns-in-None : goal.returns-in-None
returns-in-None c = before-None _ c.args.target.now (sym c.question_mark.ensures.place ∙ c.in-None.is)
