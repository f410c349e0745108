use Rattle.loop_runner.proofs.All.{admits, [], at, moment, grows_then, links_both, turns_both, few_passes, passes_then, passes_onward, kept_then, turn_made}
use Rattle.loop_runner.proofs.turn.run_turn.Goals as goal

pub events-init : goal.events-init
events-init g c =
    let due = c.begin.ensures.keeps in
    record {
      running = due.running;
      none = c.begin.ensures.none;
      there = due.steps.there;
      told = c.begin.ensures.told;
      passed = passes_onward _ _ due.steps.onward;
      grows = due.steps.onward.grows;
      turns = due.steps.onward.turns;
      links = due.steps.onward.links;
      kept = λ start config views few are k. due.kept c.args.routes.now start config views are k;
    }

pub events-preserved : goal.events-preserved
events-preserved g c =
    let before = c.events.invariant in
    let taken = c.take_event.ensures in
    let passed = c.in-None.ensures.between.passed in
    record {
      running = c.in-None.ensures.between.running;
      none = c.in-None.ensures.between.none;
      there = λ there. taken.there (before.there there);
      told = taken.told (at g.N.Net g.W.Watch c.args.hub.now c.args.out.now) before.told;
      passed = passes_then _ _ _ before.passed passed;
      grows = grows_then _ _ _ before.grows taken.grows;
      turns = turns_both 0 0 (g.W.Watch.told c.args.out.now.watch) (g.W.Watch.told c.events.out.watch) (g.W.Watch.told c.take_event.new.out.watch) before.turns c.in-None.ensures.between.turns;
      links = links_both 0 0 0 0 (at g.N.Net g.W.Watch c.args.hub.now c.args.out.now) (at g.N.Net g.W.Watch c.events.hub c.events.out) (at g.N.Net g.W.Watch c.take_event.new.hub c.take_event.new.out) before.links taken.links passed.faults;
      kept = kept_then (admits c.args.guard.now.rule) c.args.routes.now c.args.intakes.now c.events.intakes c.take_event.new.intakes (moment g.N.Net g.W.Watch g.H.Handler c.args.hub.now c.args.out.now c.args.handler.now)
          (moment g.N.Net g.W.Watch g.H.Handler c.events.hub c.events.out c.events.handler) (moment g.N.Net g.W.Watch g.H.Handler c.take_event.new.hub c.take_event.new.out c.take_event.new.handler)
          passed.tells (few_passes [] _ _ passed) before.kept taken.kept;
    }

pub returns-in-Some : goal.returns-in-Some
returns-in-Some g c =
    let before = c.events.invariant in
    turn_made (admits c.args.guard.now.rule) c.args.routes.now c.in-Some.turned c.args.intakes.now c.events.intakes c.take_event.new.intakes (moment g.N.Net g.W.Watch g.H.Handler c.args.hub.now c.args.out.now c.args.handler.now)
    (moment g.N.Net g.W.Watch g.H.Handler c.events.hub c.events.out c.events.handler) (moment g.N.Net g.W.Watch g.H.Handler c.take_event.new.hub c.take_event.new.out c.take_event.new.handler)
    before.passed before.turns before.links before.grows before.there before.told before.kept c.in-Some.ensures
