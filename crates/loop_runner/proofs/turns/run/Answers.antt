use Rattle.loop_runner.proofs.All.{admits, ◌+◌, arith, rules, at, passed_none, fails_beyond, turns_last, turns_more, turns_stop, turns_none, turns_then, run_made}
use Rattle.loop_runner.specs.declared.turn.Turned.TheVariants as turned
use Rattle.loop_runner.proofs.turns.run.Goals as goal

pub turns-init : goal.turns-init
turns-init g c = record { passed = passed_none _; made = turns_none (admits c.args.guard.now.rule) c.args.routes.now c.args.intakes.now _ c.requires }

pub turns-preserved : goal.turns-preserved
turns-preserved g c =
    let turn = c.in-Turn.ensures in
    record { passed = turns_more c.turns.turn _ _ _ c.turns.invariant.passed turn.passed; made = turns_then (admits c.args.guard.now.rule) c.args.routes.now c.turns.turn turned.Turn _ _ _ _ _ _ c.turns.invariant.made turn }

pub returns-in-Stop : goal.returns-in-Stop
returns-in-Stop g c =
    let turn = c.in-Stop.ensures in
    let made = turns_then (admits c.args.guard.now.rule) c.args.routes.now c.turns.turn turned.Stop _ _ _ _ _ _ c.turns.invariant.made turn in
    run_made (admits c.args.guard.now.rule) c.args.routes.now _ _ (c.turns.turn + 1) _ _ _ _ (λ one. omega arith) (omega arith, omega (arith, c.turns-test.true), turns_stop c.turns.turn _ _ _ c.turns.invariant.passed turn.passed) (tt {0}) made.turns made

pub returns-in-Failed : goal.returns-in-Failed
returns-in-Failed g c =
    let turn = c.in-Failed.ensures in
    let passed = c.turns.invariant.passed in
    let seen = at g.N.Net g.W.Watch in
    let failed = fails_beyond (seen c.args.hub.now c.args.out.now) (seen c.turns.hub c.turns.out) (seen c.run_turn.new.hub c.run_turn.new.out) passed.faults c.turns.invariant.made.links turn.passed.faults turn.failed in
    let made = turns_then (admits c.args.guard.now.rule) c.args.routes.now c.turns.turn turned.Failed _ _ _ _ _ _ c.turns.invariant.made turn in
    run_made (admits c.args.guard.now.rule) c.args.routes.now _ _ (c.turns.turn + 1) _ _ _ _ (λ one. omega arith)
    (c.turns.turn, omega (arith, c.turns-test.true), turns_last c.turns.turn turned.Failed _ _ _ passed turn.passed, failed.rose) failed (c.turns.turn + 1, omega arith, omega (arith, c.turns-test.true), made.turns) made

pub returns : goal.returns
returns g c = run_made (admits c.args.guard.now.rule) c.args.routes.now _ _ c.turns.turn _ _ _ _ (λ one. omega (arith, one, c.turns-test.false)) (search rules) (tt {0}) (search rules) c.turns.invariant.made
