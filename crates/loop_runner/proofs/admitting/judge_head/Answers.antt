use Rattle.loop_runner.proofs.All.{admits, refl, ◌∙◌, Head, is_reading, phase_at, clash, of_here, beginning, keep_waiting, keep_refused, ends_reading, taken_away, steps_but, steps_sends, But, rules, steps_same}
use Rattle.loop_runner.proofs.admitting.judge_head.Goals as goal

pub returns-in-Refuse-clause-takes : goal.returns-in-Refuse-clause-takes
returns-in-Refuse-clause-takes g c =
    let away = ends_reading _ _ _ _ _ c.refuse.ensures (of_here c.args.conn.0) Head c.requires.phase refl refl in
    record {
      steps = steps_but c.args.conn.0 _ _ (steps_sends _ _ c.refuse.ensures refl);
      asked = λ reads. clash (is_reading (phase_at c.refuse.new.self c.args.conn.0)) away reads;
      taken = taken_away _ c.args.intake.now.reader away;
      max = refl;
    }

pub returns-in-More-clause-kept : goal.returns-in-More-clause-kept
returns-in-More-clause-kept g c = λ start config. keep_waiting (beginning g.H.Handler (admits c.args.guard.now.rule) start config c.args.routes.now) c.args.conn.0 _ _ _ _ c.requires.phase c.in-More.is c.decide.ensures.judged

pub returns-in-Refuse-clause-kept : goal.returns-in-Refuse-clause-kept
returns-in-Refuse-clause-kept g c = λ start config.
    keep_refused (beginning g.H.Handler (admits c.args.guard.now.rule) start config c.args.routes.now) c.args.conn.0 c.in-Refuse.status _ _ _ _ _ _ c.requires.phase c.in-Refuse.is c.decide.ensures.judged (c.deref.ensures.0 ∙ c.refusal.ensures.text) c.refuse.ensures

pub returns-in-More-clause-takes : goal.returns-in-More-clause-takes
returns-in-More-clause-takes g c = record { steps = steps_same (But c.args.conn.0) _; asked = λ reads. c.requires.asked; taken = search rules; max = refl }
