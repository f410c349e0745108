use Rattle.ws_program.proofs.Below.{refl, subst, ConfigValue}
use Rattle.loop_runner.specs.declared.turns.Ran.TheVariants as ran
use Rattle.topic_guard.specs.Admits.{admits}
use Rattle.ws_program.specs.Serve.{Outer, RunsNew, Service, scene}
use Rattle.ws_program.proofs.ServeLemmas.{ends_written, makes_spent, makes_stopped}
use Rattle.ws_program.proofs.serve.serve_run.Goals as goal

pub returns-in-Stopped : goal.returns-in-Stopped
returns-in-Stopped g c =
    let rule = admits c.args.guard.now.rule in
    let asked : Service = record { config = c.args.config; port = c.args.port; turns = c.args.turns } in
    let old = scene g.N.Net g.W.Watch g.K.Sink c.args.out.now c.args.sink.now in
    let new = scene g.N.Net g.W.Watch g.K.Sink c.make_turns.new.out c.write_turns.new.sink in
    let mid : Outer = record { net = g.N.Net.state c.listen.new.self; told = g.W.Watch.told c.args.out.now.watch } in
    ends_written rule asked c.in-Stopped.made c.write_turns.result old new
    (makes_stopped rule asked old.out mid new.out refl c.in-Ready.ensures c.in-Stopped.made (subst (λ (f : ConfigValue). RunsNew rule f (ran.Stopped c.in-Stopped.made) c.args.turns mid new.out) c.in-Ok.ensures.config c.in-Stopped.ensures))
    c.write_turns.ensures

pub returns-in-Spent : goal.returns-in-Spent
returns-in-Spent g c =
    let rule = admits c.args.guard.now.rule in
    let asked : Service = record { config = c.args.config; port = c.args.port; turns = c.args.turns } in
    let old = scene g.N.Net g.W.Watch g.K.Sink c.args.out.now c.args.sink.now in
    let new = scene g.N.Net g.W.Watch g.K.Sink c.make_turns.new.out c.write_turns-in-Spent.new.sink in
    let mid : Outer = record { net = g.N.Net.state c.listen.new.self; told = g.W.Watch.told c.args.out.now.watch } in
    ends_written rule asked c.args.turns c.write_turns-in-Spent.result old new
    (makes_spent rule asked old.out mid new.out refl c.in-Ready.ensures (subst (λ (f : ConfigValue). RunsNew rule f ran.Spent c.args.turns mid new.out) c.in-Ok.ensures.config c.in-Spent.ensures))
    c.write_turns-in-Spent.ensures
