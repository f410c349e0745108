use Rattle.made_schedule.proofs.All.{◌+◌, ◌++◌, ◌∙◌, ap, sym, opening, openings, no_openings, opening_more, put_more, put_none}
use Rattle.made_schedule.proofs.schedule.push_openings.Goals as goal

pub connections-init : goal.connections-init
connections-init c = put_none c.args.schedule.now (openings 0) no_openings

pub connections-preserved : goal.connections-preserved
connections-preserved c =
    put_more c.args.schedule.now c.connections.schedule c.push_opening.new.schedule (opening (c.connections.before + 1)) (openings c.connections.before) c.in_ok-push_opening.ensures c.connections.invariant
    ∙ ap (λ l. c.args.schedule.now ++ l) (sym (opening_more c.connections.before))
