use Rattle.loop_runner.proofs.All.{admits, ◌≡◌, Some, refl, sym, ap, rules, EventValue, Server, server, at, IntakeView, event_for, intake_at, beginning, intake_view, ServesOrders, Every, keep_told, noted_next, pass_more, pass_next, steps_makes, steps_then}
use Rattle.ws_kinds.specs.EventValue as event
use Rattle.loop_runner.proofs.telling.tell.Goals as goal

pub returns-in-Some : goal.returns-in-Some
returns-in-Some g c = λ after before out.
    let conn = c.args.telling.now.conn.0 in
    let dropped = c.args.telling.now.dropped in
    let drained = c.args.telling.now.drained in
    let net = g.N.Net.state c.args.out.now.net in
    let a : Server = server before net (g.W.Watch.told c.args.out.now.watch) in
    let m : Server = server c.args.hub.now net (g.W.Watch.told c.note.new.self) in
    let x = noted_next after conn dropped drained before c.args.hub.now net (g.W.Watch.told c.args.out.now.watch) (g.W.Watch.told c.note.new.self) out.takes out.appends c.note.ensures in
    let at_here : intake_at c.args.intakes.now conn ≡ Some c.in-Some.intake.now = search rules in
    let given : EventValue = event_for conn (intake_view c.in-Some.intake.now) (event.told dropped drained) in
    let state : g.H.Handler.state c.give.new.handler ≡ g.H.Handler.after (g.H.Handler.state c.args.handler.now) (event_for conn (intake_view c.in-Some.intake.now) (event.told dropped drained)) = search rules in
    let served : ServesOrders (admits c.args.guard.now.rule) conn (g.H.Handler.said (g.H.Handler.state c.give.new.handler) (event_for conn (intake_view c.in-Some.intake.now) (event.told dropped drained)))
    (server c.args.hub.now net (g.W.Watch.told c.note.new.self)) (at g.N.Net g.W.Watch c.give.new.hub c.give.new.out) = search rules in
    record {
      steps = steps_then Every a m _ (steps_makes _ a m x.makes x.appends c.requires.ties out.tables out.named refl) c.give.ensures.steps;
      kept = λ table start config views are k. (
        views,
        are,
        keep_told (beginning g.H.Handler (admits c.args.guard.now.rule) start config table) after conn dropped drained a m (at g.N.Net g.W.Watch c.give.new.hub c.give.new.out)
            (g.H.Handler.state c.args.handler.now) (g.H.Handler.state c.give.new.handler) views given x (ap (λ (z : IntakeView). event_for conn z (event.told dropped drained)) (sym (are conn c.in-Some.intake.now at_here)))
            state served c.give.ensures.table k,
      );
      told = λ start owed. pass_more conn start m _ (pass_next after conn dropped drained start a m owed x) c.give.ensures.steps.onward.telling;
    }
