use Rattle.loop_runner.proofs.All.{admits, ℕ, refl, subst, Reads, PeerEnd, LinkFailed, is_reading, phase_at, clash, beginning, But, gone_now, taken_away, count_of, front_of, keep_later, keep_gone, keep_lost, steps_then, steps_but, steps_failed, steps_notes, links_rose, steps_read}
use Rattle.link_trait.specs.declared.net.NetRead.TheVariants as NetRead
use Rattle.loop_runner.proofs.reading.read.Goals as goal

pub returns-in-Octets-clause-takes : goal.returns-in-Octets-clause-takes
returns-in-Octets-clause-takes g c =
    let takes = c.take.ensures.takes in
    record { steps = steps_then (But c.args.conn.0) _ _ _ (steps_read c.args.conn.0 _ _ _ _ _ _ c.read.ensures) takes.steps; asked = takes.asked; taken = takes.taken; max = takes.max }

pub returns-in-End-clause-takes : goal.returns-in-End-clause-takes
returns-in-End-clause-takes g c =
    let away = gone_now c.args.conn.0 PeerEnd _ _ c.ended.ensures.makes.advances in
    record {
      steps = steps_then (But c.args.conn.0) _ _ _ (steps_read c.args.conn.0 _ _ _ _ _ _ c.read.ensures) (steps_but c.args.conn.0 _ _ (steps_notes _ _ c.ended.ensures refl));
      asked = λ reads. clash (is_reading (phase_at c.ended.new.self c.args.conn.0)) away reads;
      taken = taken_away _ c.args.intake.now.reader away;
      max = refl;
    }

pub returns-in-Failed-clause-takes : goal.returns-in-Failed-clause-takes
returns-in-Failed-clause-takes g c =
    let away = gone_now c.args.conn.0 LinkFailed _ _ c.link_failed.ensures.advances in
    record {
      steps = steps_failed c.args.conn.0 _ _ _ (steps_read c.args.conn.0 _ _ _ _ _ _ c.read.ensures)
          (links_rose c.args.hub.now (g.N.Net.state c.args.out.now.net) (g.N.Net.state c.read.new.self) (g.W.Watch.told c.args.out.now.watch) c.in-Failed.ensures.faults) c.link_failed.ensures;
      asked = λ reads. clash (is_reading (phase_at c.link_failed.new.self c.args.conn.0)) away reads;
      taken = taken_away _ c.args.intake.now.reader away;
      max = refl;
    }

pub returns-in-Later-clause-takes : goal.returns-in-Later-clause-takes
returns-in-Later-clause-takes g c = record { steps = steps_read c.args.conn.0 _ _ _ _ _ _ c.read.ensures; asked = λ reads. c.read.ensures.due; taken = c.requires.taken; max = refl }

pub returns-in-Octets-clause-kept : goal.returns-in-Octets-clause-kept
returns-in-Octets-clause-kept g c = λ start config.
    let within = c.in-Octets.ensures.within.1 in
    c.take.ensures.kept c.read.new.room (g.N.Net.state c.args.out.now.net) (front_of c.in-Octets.count c.read.new.room _ within)
    (subst (λ (z : ℕ). Reads c.args.conn.0 c.read.new.room (NetRead.Octets z) (g.N.Net.state c.args.out.now.net) (g.N.Net.state c.read.new.self)) (count_of c.in-Octets.count c.read.new.room _ within) c.in-Octets.ensures) start config

pub returns-in-End-clause-kept : goal.returns-in-End-clause-kept
returns-in-End-clause-kept g c = λ start config.
    keep_gone (beginning g.H.Handler (admits c.args.guard.now.rule) start config c.args.routes.now) c.args.conn.0 c.read.new.room c.args.hub.now (g.N.Net.state c.args.out.now.net) (g.N.Net.state c.read.new.self) (g.W.Watch.told c.args.out.now.watch) _ _ _
    c.requires.reading c.in-End.ensures c.ended.ensures

pub returns-in-Failed-clause-kept : goal.returns-in-Failed-clause-kept
returns-in-Failed-clause-kept g c = λ start config.
    keep_lost (beginning g.H.Handler (admits c.args.guard.now.rule) start config c.args.routes.now) c.args.conn.0 c.read.new.room c.args.hub.now (g.N.Net.state c.args.out.now.net) (g.N.Net.state c.read.new.self) (g.W.Watch.told c.args.out.now.watch) _ _ _
    c.requires.reading c.in-Failed.ensures c.link_failed.ensures

pub returns-in-Later-clause-kept : goal.returns-in-Later-clause-kept
returns-in-Later-clause-kept g c = λ start config.
    keep_later (beginning g.H.Handler (admits c.args.guard.now.rule) start config c.args.routes.now) c.args.conn.0 c.read.new.room c.args.hub.now (g.N.Net.state c.args.out.now.net) (g.N.Net.state c.read.new.self) (g.W.Watch.told c.args.out.now.watch) _ _ c.in-Later.ensures
