use Rattle.hub_core.proofs.All.{is_ok, Begins, whole, only, served, kept_by_one, carried_after}
use Rattle.hub_core.proofs.tests.senders.send_and_lose.Goals as goal

pub returns-clause-carried : goal.returns-clause-carried
returns-clause-carried g c =
    carried_after c.args.to.0 (served c.is_ok-sent.result (only c.args.to.0 (whole (Begins c.args.kind) c.args.body.now)))
    (kept_by_one c.is_ok-sent.result (is_ok c.send.result) (only c.args.to.0 (whole (Begins c.args.kind) c.args.body.now)) c.is_ok-sent.ensures.value c.send.ensures.appends.lines c.lose.ensures.appends.lines c.end_turn.ensures.appends.lines)
    c.end_turn.ensures.settled
