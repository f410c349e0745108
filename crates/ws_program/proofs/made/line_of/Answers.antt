use Rattle.ws_program.proofs.All.{made_can_begin, summary_is}
use Rattle.std.proofs.lemmas.Result.{IfOk-weaker}
use Rattle.ws_program.proofs.made.line_of.Goals as goal

pub run_made-requires : goal.run_made-requires
run_made-requires g c = made_can_begin c.args.seed c.in_ok-schedule.schedule c.in_ok-schedule.ensures.acts c.in_ok-schedule.ensures.sound c.in_ok-schedule.ensures.count

pub returns : goal.returns
returns g c =
    let is = summary_is c.args.seed c.in_ok-schedule.schedule c.in_ok-schedule.ensures.acts c.in_ok-replayed.ensures c.in-Some.summary c.in-Some.ensures in
    IfOk-weaker c.line.result _ _ (λ line items. (c.in-Some.summary, is, items)) c.line.ensures
