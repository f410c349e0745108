use Rattle.loop_runner.proofs.All.{admits, refl, server, beginning, moment, running_freed, running_ticked, steps_ticks, keep_readable, keep_tick, keep_freed, there_next, event_between, event_ended, steps_freed}
use Rattle.link_trait.specs.declared.net.NetEvent.TheVariants as event
use Rattle.loop_runner.specs.declared.turn.Turned.TheVariants as turned
use Rattle.loop_runner.proofs.turn.take_event.Goals as goal

pub returns-in-Accept : goal.returns-in-Accept
returns-in-Accept g c =
    let next = c.in-Accept.ensures in
    let arrived = c.arrive.ensures in
    event_between (admits c.args.guard.now.rule) c.args.routes.now (event.Accept c.in-Accept.conn) (g.N.Net.state c.args.out.now.net) c.args.intakes.now c.arrive.new.intakes c.close_all.new.intakes
    (record { server = server c.args.hub.now (g.N.Net.state c.next.new.self) (g.W.Watch.told c.args.out.now.watch); now = g.H.Handler.state c.args.handler.now })
    (moment g.N.Net g.W.Watch g.H.Handler c.arrive.new.hub c.arrive.new.out c.args.handler.now) (moment g.N.Net g.W.Watch g.H.Handler c.close_all.new.hub c.close_all.new.out c.close_all.new.handler)
    next refl next.event.room arrived.onward (λ few. arrived.kept (admits c.args.guard.now.rule) c.args.routes.now (g.N.Net.state c.args.out.now.net) next few) (arrived.there (g.N.Net.state c.args.out.now.net) next) c.close_all.ensures.keeps c.close_all.ensures.none

pub returns-in-Readable : goal.returns-in-Readable
returns-in-Readable g c =
    let next = c.in-Readable.ensures in
    event_between (admits c.args.guard.now.rule) c.args.routes.now (event.Readable c.in-Readable.conn) (g.N.Net.state c.args.out.now.net) c.args.intakes.now c.readable.new.intakes c.close_all-in-Readable.new.intakes
    (record { server = server c.args.hub.now (g.N.Net.state c.next.new.self) (g.W.Watch.told c.args.out.now.watch); now = g.H.Handler.state c.args.handler.now })
    (moment g.N.Net g.W.Watch g.H.Handler c.readable.new.hub c.readable.new.out c.readable.new.handler)
    (moment g.N.Net g.W.Watch g.H.Handler c.close_all-in-Readable.new.hub c.close_all-in-Readable.new.out c.close_all-in-Readable.new.handler)
    next refl next.event.room c.readable.ensures.steps.onward
    (λ few start config views are k. c.readable.ensures.kept start config views are (keep_readable (beginning g.H.Handler (admits c.args.guard.now.rule) start config c.args.routes.now) c.args.hub.now (g.N.Net.state c.args.out.now.net) _ _ _ views c.in-Readable.conn next k))
    (λ there. c.readable.ensures.steps.there (there_next _ c.args.hub.now _ _ (g.W.Watch.told c.args.out.now.watch) next next.event.live there)) c.close_all-in-Readable.ensures.keeps c.close_all-in-Readable.ensures.none

pub close_all-requires-in-Tick : goal.close_all-requires-in-Tick
close_all-requires-in-Tick g c =
    let ticked = c.tick.ensures in
    record { running = running_ticked _ _ _ _ _ _ c.requires.running c.in-Tick.ensures.event.links (steps_ticks _ _ ticked.ticks ticked.ties ticked.table ticked.named) }

pub returns-in-Tick : goal.returns-in-Tick
returns-in-Tick g c =
    let next = c.in-Tick.ensures in
    let ticked = c.tick.ensures in
    let steps = steps_ticks _ _ ticked.ticks ticked.ties ticked.table ticked.named in
    event_between (admits c.args.guard.now.rule) c.args.routes.now event.Tick (g.N.Net.state c.args.out.now.net) c.args.intakes.now c.args.intakes.now c.close_all-in-Tick.new.intakes
    (record { server = server c.args.hub.now (g.N.Net.state c.next.new.self) (g.W.Watch.told c.args.out.now.watch); now = g.H.Handler.state c.args.handler.now })
    (moment g.N.Net g.W.Watch g.H.Handler c.tick.new.self c.tick.new.out c.args.handler.now)
    (moment g.N.Net g.W.Watch g.H.Handler c.close_all-in-Tick.new.hub c.close_all-in-Tick.new.out c.close_all-in-Tick.new.handler)
    next refl next.event.room steps.onward
    (λ few start config views are k. (views, are, keep_tick (beginning g.H.Handler (admits c.args.guard.now.rule) start config c.args.routes.now) c.args.hub.now (g.N.Net.state c.args.out.now.net) _ _ _ views _ c.requires.none next few ticked.ticks ticked.table k))
    (λ there. steps.there (there_next _ c.args.hub.now _ _ (g.W.Watch.told c.args.out.now.watch) next next.event.links.live there)) c.close_all-in-Tick.ensures.keeps c.close_all-in-Tick.ensures.none

pub close_all-requires-in-Writable : goal.close_all-requires-in-Writable
close_all-requires-in-Writable g c = record { running = running_freed _ _ _ _ _ _ _ c.requires.running c.in-Writable.ensures.event c.offer.ensures }

pub returns-in-Writable : goal.returns-in-Writable
returns-in-Writable g c =
    let next = c.in-Writable.ensures in
    let steps = steps_freed _ _ _ c.offer.ensures in
    event_between (admits c.args.guard.now.rule) c.args.routes.now (event.Writable c.in-Writable.conn) (g.N.Net.state c.args.out.now.net) c.args.intakes.now c.args.intakes.now c.close_all-in-Writable.new.intakes
    (record { server = server c.args.hub.now (g.N.Net.state c.next.new.self) (g.W.Watch.told c.args.out.now.watch); now = g.H.Handler.state c.args.handler.now })
    (moment g.N.Net g.W.Watch g.H.Handler c.offer.new.hub c.offer.new.out c.args.handler.now)
    (moment g.N.Net g.W.Watch g.H.Handler c.close_all-in-Writable.new.hub c.close_all-in-Writable.new.out c.close_all-in-Writable.new.handler)
    next refl next.event.room steps.onward
    (λ few start config views are k. (views, are, keep_freed (beginning g.H.Handler (admits c.args.guard.now.rule) start config c.args.routes.now) c.args.hub.now (g.N.Net.state c.args.out.now.net) _ _ _ views _ _ next c.offer.ensures k))
    (λ there. steps.there (there_next _ c.args.hub.now _ _ (g.W.Watch.told c.args.out.now.watch) next next.event.live there)) c.close_all-in-Writable.ensures.keeps c.close_all-in-Writable.ensures.none

pub returns-in-Turn : goal.returns-in-Turn
returns-in-Turn g c = event_ended (admits c.args.guard.now.rule) c.args.routes.now turned.Turn (g.N.Net.state c.args.out.now.net) c.args.intakes.now c.end_turn.new.intakes
    (record { server = server c.args.hub.now (g.N.Net.state c.next.new.self) (g.W.Watch.told c.args.out.now.watch); now = g.H.Handler.state c.args.handler.now })
    (moment g.N.Net g.W.Watch g.H.Handler c.end_turn.new.hub c.end_turn.new.out c.args.handler.now) c.in-Turn.ensures c.end_turn.ensures

pub returns-in-Stop : goal.returns-in-Stop
returns-in-Stop g c = event_ended (admits c.args.guard.now.rule) c.args.routes.now turned.Stop (g.N.Net.state c.args.out.now.net) c.args.intakes.now c.end_turn-in-Stop.new.intakes
    (record { server = server c.args.hub.now (g.N.Net.state c.next.new.self) (g.W.Watch.told c.args.out.now.watch); now = g.H.Handler.state c.args.handler.now })
    (moment g.N.Net g.W.Watch g.H.Handler c.end_turn-in-Stop.new.hub c.end_turn-in-Stop.new.out c.args.handler.now) c.in-Stop.ensures c.end_turn-in-Stop.ensures

pub returns-in-Failed : goal.returns-in-Failed
returns-in-Failed g c = event_ended (admits c.args.guard.now.rule) c.args.routes.now turned.Failed (g.N.Net.state c.args.out.now.net) c.args.intakes.now c.end_turn-in-Failed.new.intakes
    (record { server = server c.args.hub.now (g.N.Net.state c.next.new.self) (g.W.Watch.told c.args.out.now.watch); now = g.H.Handler.state c.args.handler.now })
    (moment g.N.Net g.W.Watch g.H.Handler c.end_turn-in-Failed.new.hub c.end_turn-in-Failed.new.out c.args.handler.now) c.in-Failed.ensures c.end_turn-in-Failed.ensures
