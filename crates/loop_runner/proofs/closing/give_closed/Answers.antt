use Rattle.loop_runner.proofs.All.{admits, ◌≡◌, List, ℕ, Some, refl, sym, ap, subst, rules, EventValue, IsNoted, server, at, parting_value, IntakeView, event_for, intake_at, beginning, intake_view, ServesOrders, Every, keep_closed, steps_then, steps_noted}
use Rattle.ws_kinds.specs.NoteValue as note
use Rattle.ws_kinds.specs.EventValue as event
use Rattle.loop_runner.proofs.closing.give_closed.Goals as goal

pub returns-in-Some-clause-steps : goal.returns-in-Some-clause-steps
returns-in-Some-clause-steps g c = steps_then Every _ _ _ (steps_noted _ _ _ _ _ c.note.ensures (λ d. refl) refl) c.give.ensures.steps

pub returns-in_default-clause-steps : goal.returns-in_default-clause-steps
returns-in_default-clause-steps g c = steps_noted _ _ _ _ _ c.note.ensures (λ d. refl) refl

pub returns-in-Some-clause-kept : goal.returns-in-Some-clause-kept
returns-in-Some-clause-kept g c = λ before out table start config views are k.
    let at_here : intake_at c.args.intakes.now c.args.parting.now.conn.0 ≡ Some c.in-Some.intake.now = search rules in
    let given : EventValue = event_for c.args.parting.now.conn.0 (intake_view c.in-Some.intake.now) (event.closed c.args.parting.now.code c.args.parting.now.reason.items) in
    let state : g.H.Handler.state c.give.new.handler ≡ g.H.Handler.after (g.H.Handler.state c.args.handler.now) (event_for c.args.parting.now.conn.0 (intake_view c.in-Some.intake.now) (event.closed c.args.parting.now.code c.args.parting.now.reason.items)) = search rules in
    let served : ServesOrders (admits c.args.guard.now.rule) c.args.parting.now.conn.0 (g.H.Handler.said (g.H.Handler.state c.give.new.handler) (event_for c.args.parting.now.conn.0 (intake_view c.in-Some.intake.now) (event.closed c.args.parting.now.code c.args.parting.now.reason.items)))
    (server c.args.hub.now (g.N.Net.state c.args.out.now.net) (g.W.Watch.told c.note.new.self)) (at g.N.Net g.W.Watch c.give.new.hub c.give.new.out) = search rules in
    let noted : IsNoted (g.W.Watch.told c.args.out.now.watch) (note.closed c.args.parting.now.conn.0 c.args.parting.now.code c.args.parting.now.reason.items) (g.W.Watch.told c.note.new.self) =
    subst (λ (z : List ℕ). IsNoted (g.W.Watch.told c.args.out.now.watch) (note.closed c.args.parting.now.conn.0 c.args.parting.now.code z) (g.W.Watch.told c.note.new.self)) c.as_slice-reason.ensures.value c.note.ensures in (
      views,
      are,
      keep_closed (beginning g.H.Handler (admits c.args.guard.now.rule) start config table) (parting_value c.args.parting.now) c.args.intakes.now before (at g.N.Net g.W.Watch c.args.hub.now c.args.out.now) (at g.N.Net g.W.Watch c.give.new.hub c.give.new.out) (g.W.Watch.told c.note.new.self)
          (g.H.Handler.state c.args.handler.now) (g.H.Handler.state c.give.new.handler) views given out noted (ap (λ (z : IntakeView). event_for c.args.parting.now.conn.0 z (event.closed c.args.parting.now.code c.args.parting.now.reason.items)) (sym (are c.args.parting.now.conn.0 c.in-Some.intake.now at_here)))
          state served c.give.ensures.table k,
    )
