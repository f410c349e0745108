use Rattle.loop_runner.proofs.All.{◌≡◌, false, is_some, ◌∙◌, sym, rules, phase_at, Every, kept_phase, running_shut, running_steps, views_shut}
use Rattle.loop_runner.proofs.closing.close.Goals as goal

pub returns-then-is_none-clause-running : goal.returns-then-is_none-clause-running
returns-then-is_none-clause-running g c =
    let running = running_steps Every c.args.intakes.now _ _ c.requires.running c.give_closed.ensures.steps in
    let not_none : is_some (phase_at c.give_closed.new.hub c.args.parting.now.conn.0) ≡ false = search rules in
    running_shut c.args.parting.now.conn.0 c.args.intakes.now _ _ running c.shut.ensures.others c.shut.ensures.shut (sym (kept_phase c.give_closed.new.hub c.args.parting.now.conn.0 running.table) ∙ not_none)

pub returns-else-is_none-clause-running : goal.returns-else-is_none-clause-running
returns-else-is_none-clause-running g c = running_steps Every c.args.intakes.now _ _ c.requires.running c.give_closed.ensures.steps

pub returns-then-is_none-clause-kept : goal.returns-then-is_none-clause-kept
returns-then-is_none-clause-kept g c = λ before out table start config views are k.
    let x = c.give_closed.ensures.kept before out table start config views are k in
    (x.0, views_shut c.args.parting.now.conn.0 c.args.intakes.now c.shut.new.self x.0 x.1 c.shut.ensures.others c.shut.ensures.shut, x.2)
