use Rattle.loop_runner.proofs.All.{refl, sym, subst, Some, ℕ, rules, max_of, intake_at, IsNew, ChangesIntake, SameIntakes, turned_away, refused, accepted, keep_full, keep_no_room, keep_accepted, keep_busy, keep_memory}
use Rattle.loop_runner.proofs.arriving.arrive.Goals as goal

pub returns-then-full : goal.returns-then-full
returns-then-full g c =
    let away = c.turn_away.ensures in
    let run = c.requires.running in
    turned_away c.args.conn c.args.intakes.now c.args.hub.now _ _ (g.H.Handler.state c.args.handler.now) run c.requires.new c.args.intakes.now _ _ _ (record { max = refl; all = λ d. refl }) away.noted (λ d. refl) refl away.shuts
    (λ b before views next few. keep_full b c.args.conn c.args.hub.now before _ _ _ views next few run.table c.requires.new c.requires.none _ _ away.noted away.shuts (search rules))

pub returns-then-is_err : goal.returns-then-is_err
returns-then-is_err g c =
    let away = c.turn_away-then-is_err.ensures in
    let run = c.requires.running in
    let same : SameIntakes c.args.intakes.now c.admit.new.self = search rules in
    turned_away c.args.conn c.args.intakes.now c.args.hub.now _ _ (g.H.Handler.state c.args.handler.now) run c.requires.new c.admit.new.self _ _ _ same away.noted (λ d. refl) refl away.shuts
    (λ b before views next few. keep_no_room b c.args.conn c.args.hub.now before _ _ _ views next few run.table c.requires.new c.requires.none _ _ away.noted away.shuts (search rules))

pub returns-in-Taken : goal.returns-in-Taken
returns-in-Taken g c =
    let run = c.requires.running in
    let arrives = c.in-Taken.ensures.answer in
    let change : ChangesIntake c.args.conn.0 c.args.intakes.now c.admit.new.self = search rules in
    let made : IsNew (max_of c.args.intakes.now) (intake_at c.admit.new.self c.args.conn.0) = search rules in
    accepted c.args.conn c.args.intakes.now c.args.hub.now _ _ (g.H.Handler.state c.args.handler.now) run c.requires.new c.admit.new.self _ change made arrives c.requires.unasked c.requires.named c.accept.ensures.ties c.accept.ensures.appends
    c.accept.ensures.table
    (λ intake new b before views next few. keep_accepted b c.args.conn c.args.hub.now before _ _ _ views next few run.table c.requires.new c.requires.none _ intake arrives c.accept.ensures.appends c.accept.ensures.table (c.accept.ensures.counts c.in-Taken.is)
    (subst (λ (z : ℕ). IsNew z (Some intake)) (sym run.max) new))

pub returns-in-Busy : goal.returns-in-Busy
returns-in-Busy g c =
    let run = c.requires.running in
    let shut = c.shut.ensures in
    let arrives = c.in-Busy.ensures.answer in
    let change : ChangesIntake c.args.conn.0 c.args.intakes.now c.admit.new.self = search rules in
    refused c.args.conn c.args.intakes.now c.args.hub.now _ _ (g.H.Handler.state c.args.handler.now) run c.requires.new c.admit.new.self c.shut.new.intakes _ _ _ _ shut.told change shut.others shut.none arrives.1 arrives.2
    c.accept.ensures.appends c.accept.ensures.ties c.accept.ensures.table refl shut.shuts
    (λ b before views next few. keep_busy b c.args.conn c.args.hub.now before _ _ _ views next few run.table c.requires.new c.requires.none _ _ arrives c.accept.ensures.appends c.accept.ensures.table shut.shuts)

pub returns-in-Memory : goal.returns-in-Memory
returns-in-Memory g c =
    let run = c.requires.running in
    let shut = c.shut-in-Memory.ensures in
    let arrives = c.in-Memory.ensures.answer in
    let change : ChangesIntake c.args.conn.0 c.args.intakes.now c.admit.new.self = search rules in
    refused c.args.conn c.args.intakes.now c.args.hub.now _ _ (g.H.Handler.state c.args.handler.now) run c.requires.new c.admit.new.self c.shut-in-Memory.new.intakes _ _ _ _ shut.told change shut.others shut.none arrives.1 arrives.2
    c.accept.ensures.appends c.accept.ensures.ties c.accept.ensures.table refl shut.shuts
    (λ b before views next few. keep_memory b c.args.conn c.args.hub.now before _ _ _ views next few run.table c.requires.new c.requires.none _ _ arrives c.accept.ensures.appends c.accept.ensures.table shut.shuts)
