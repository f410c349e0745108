use Rattle.loop_runner.proofs.All.{admits, ◌≡◌, false, ◌∙◌, rules, is_reading, phase_at, reader_view, beginning, But, keep_one_then, keep_away, keep_fed, steps_then, steps_but, steps_given}
use Rattle.loop_runner.proofs.reading.take.Goals as goal

pub returns-in-Some-Head-clause-takes : goal.returns-in-Some-Head-clause-takes
returns-in-Some-Head-clause-takes g c =
    let takes = c.judge_head.ensures.takes in
    record { steps = steps_then (But c.args.conn.0) _ _ _ (steps_but c.args.conn.0 _ _ (steps_given _ _ c.given.ensures)) takes.steps; asked = takes.asked; taken = takes.taken; max = takes.max ∙ c.feed.ensures.max }

pub returns-in-Some-Open-clause-takes : goal.returns-in-Some-Open-clause-takes
returns-in-Some-Open-clause-takes g c =
    let takes = c.go_on.ensures.takes in
    record { steps = steps_then (But c.args.conn.0) _ _ _ (steps_but c.args.conn.0 _ _ (steps_given _ _ c.given.ensures)) takes.steps; asked = takes.asked; taken = takes.taken; max = takes.max ∙ c.feed.ensures.max }

pub returns-in-Some-Leaving-clause-takes : goal.returns-in-Some-Leaving-clause-takes
returns-in-Some-Leaving-clause-takes g c =
    let takes = c.go_on-in-Some-Leaving.ensures.takes in
    record { steps = steps_then (But c.args.conn.0) _ _ _ (steps_but c.args.conn.0 _ _ (steps_given _ _ c.given.ensures)) takes.steps; asked = takes.asked; taken = takes.taken; max = takes.max ∙ c.feed.ensures.max }

pub returns-clause-takes : goal.returns-clause-takes
returns-clause-takes g c = record { steps = steps_but c.args.conn.0 _ _ (steps_given _ _ c.given.ensures); asked = search rules; taken = search rules; max = c.feed.ensures.max }

pub returns-2-clause-takes : goal.returns-2-clause-takes
returns-2-clause-takes g c = record { steps = steps_but c.args.conn.0 _ _ (steps_given _ _ c.given.ensures); asked = search rules; taken = search rules; max = c.feed.ensures.max }

pub returns-in-Some-Head-clause-kept : goal.returns-in-Some-Head-clause-kept
returns-in-Some-Head-clause-kept g c = λ space before front rd start config.
    let fed = keep_fed (beginning g.H.Handler (admits c.args.guard.now.rule) start config c.args.routes.now) c.args.conn.0 space c.args.hub.now before (g.N.Net.state c.args.out.now.net) (g.W.Watch.told c.args.out.now.watch) (g.H.Handler.state c.args.handler.now)
    c.args.octets.now c.args.intake.now.route c.args.intake.now.param.items _ (reader_view c.feed.new.self) _ c.requires.none front rd c.requires.some c.requires.reading c.given.ensures
    (record { raw = c.feed.ensures.raw; unread = c.feed.ensures.unread; max = c.feed.ensures.max; ahead = c.feed.ensures.ahead }) in
    keep_one_then (beginning g.H.Handler (admits c.args.guard.now.rule) start config c.args.routes.now) c.args.conn.0 _ _ _ _ _ _ _ _ _ _ _ _ fed (c.judge_head.ensures.kept start config)

pub returns-in-Some-Open-clause-kept : goal.returns-in-Some-Open-clause-kept
returns-in-Some-Open-clause-kept g c = λ space before front rd start config.
    let fed = keep_fed (beginning g.H.Handler (admits c.args.guard.now.rule) start config c.args.routes.now) c.args.conn.0 space c.args.hub.now before (g.N.Net.state c.args.out.now.net) (g.W.Watch.told c.args.out.now.watch) (g.H.Handler.state c.args.handler.now)
    c.args.octets.now c.args.intake.now.route c.args.intake.now.param.items _ (reader_view c.feed.new.self) _ c.requires.none front rd c.requires.some c.requires.reading c.given.ensures
    (record { raw = c.feed.ensures.raw; unread = c.feed.ensures.unread; max = c.feed.ensures.max; ahead = c.feed.ensures.ahead }) in
    keep_one_then (beginning g.H.Handler (admits c.args.guard.now.rule) start config c.args.routes.now) c.args.conn.0 _ _ _ _ _ _ _ _ _ _ _ _ fed (c.go_on.ensures.kept c.args.routes.now start config)

pub returns-in-Some-Leaving-clause-kept : goal.returns-in-Some-Leaving-clause-kept
returns-in-Some-Leaving-clause-kept g c = λ space before front rd start config.
    let fed = keep_fed (beginning g.H.Handler (admits c.args.guard.now.rule) start config c.args.routes.now) c.args.conn.0 space c.args.hub.now before (g.N.Net.state c.args.out.now.net) (g.W.Watch.told c.args.out.now.watch) (g.H.Handler.state c.args.handler.now)
    c.args.octets.now c.args.intake.now.route c.args.intake.now.param.items _ (reader_view c.feed.new.self) _ c.requires.none front rd c.requires.some c.requires.reading c.given.ensures
    (record { raw = c.feed.ensures.raw; unread = c.feed.ensures.unread; max = c.feed.ensures.max; ahead = c.feed.ensures.ahead }) in
    keep_one_then (beginning g.H.Handler (admits c.args.guard.now.rule) start config c.args.routes.now) c.args.conn.0 _ _ _ _ _ _ _ _ _ _ _ _ fed (c.go_on-in-Some-Leaving.ensures.kept c.args.routes.now start config)

pub returns-clause-kept : goal.returns-clause-kept
returns-clause-kept g c = λ space before front rd start config.
    let fed = keep_fed (beginning g.H.Handler (admits c.args.guard.now.rule) start config c.args.routes.now) c.args.conn.0 space c.args.hub.now before (g.N.Net.state c.args.out.now.net) (g.W.Watch.told c.args.out.now.watch) (g.H.Handler.state c.args.handler.now)
    c.args.octets.now c.args.intake.now.route c.args.intake.now.param.items _ (reader_view c.feed.new.self) _ c.requires.none front rd c.requires.some c.requires.reading c.given.ensures
    (record { raw = c.feed.ensures.raw; unread = c.feed.ensures.unread; max = c.feed.ensures.max; ahead = c.feed.ensures.ahead }) in
    let away : is_reading (phase_at c.given.new.self c.args.conn.0) ≡ false = search rules in
    record { kept = λ views at old. keep_away (beginning g.H.Handler (admits c.args.guard.now.rule) start config c.args.routes.now) c.args.conn.0 _ _ _ away (fed.kept views at old) }

pub returns-2-clause-kept : goal.returns-2-clause-kept
returns-2-clause-kept g c = λ space before front rd start config.
    let fed = keep_fed (beginning g.H.Handler (admits c.args.guard.now.rule) start config c.args.routes.now) c.args.conn.0 space c.args.hub.now before (g.N.Net.state c.args.out.now.net) (g.W.Watch.told c.args.out.now.watch) (g.H.Handler.state c.args.handler.now)
    c.args.octets.now c.args.intake.now.route c.args.intake.now.param.items _ (reader_view c.feed.new.self) _ c.requires.none front rd c.requires.some c.requires.reading c.given.ensures
    (record { raw = c.feed.ensures.raw; unread = c.feed.ensures.unread; max = c.feed.ensures.max; ahead = c.feed.ensures.ahead }) in
    let away : is_reading (phase_at c.given.new.self c.args.conn.0) ≡ false = search rules in
    record { kept = λ views at old. keep_away (beginning g.H.Handler (admits c.args.guard.now.rule) start config c.args.routes.now) c.args.conn.0 _ _ _ away (fed.kept views at old) }
