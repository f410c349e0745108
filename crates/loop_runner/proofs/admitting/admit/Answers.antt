use Rattle.loop_runner.proofs.All.{admits, ◌≡◌, List, ℕ, Some, None, refl, sym, ap, ◌∙◌, subst, Judged, admit, answer_text, reply_text, raw_of, at, beginning, intake_view, view_of, KeepsOne, keep_opened, frames_of, keep_one_then, steps_then, steps_but, But}
use Rattle.loop_runner.proofs.admitting.admit.Goals as goal

pub read_frames-requires-clause-frames : goal.read_frames-requires-clause-frames
read_frames-requires-clause-frames g c = frames_of _ _ c.open.ensures.entered (λ reads. c.enter.ensures.goes_on)

pub read_frames-requires-clause-ties : goal.read_frames-requires-clause-ties
read_frames-requires-clause-ties g c = c.open.ensures.steps.ties c.requires.ties

pub returns-clause-takes : goal.returns-clause-takes
returns-clause-takes g c = record {
  steps = steps_then (But c.args.conn.0) _ _ _ c.open.ensures.steps (steps_but c.args.conn.0 _ _ c.read_frames.ensures.steps);
  asked = λ reads. let before = c.read_frames.ensures.steps.reading c.args.conn.0 reads in c.read_frames.ensures.steps.due c.args.conn.0 (tt {0}) reads ∙ c.open.ensures.due before ∙ c.requires.asked;
  taken = c.read_frames.ensures.taken;
  max = c.read_frames.ensures.max ∙ c.enter.ensures.max;
}

pub returns-clause-kept : goal.returns-clause-kept
returns-clause-kept g c = λ start config.
    let b = beginning g.H.Handler (admits c.args.guard.now.rule) start config c.args.routes.now in
    let intake = c.args.intake.now in
    let opened = c.enter.new.intake in
    let put : c.deref.result.now ≡ answer_text c.args.routes.now (admit c.args.admission.end c.args.admission.route c.args.admission.param.items c.args.admission.accept c.args.admission.protocol) =
    c.deref.ensures.0 ∙ c.reply-reply.ensures.text ∙ ap (λ (z : List ℕ). reply_text c.args.admission.accept z) c.named.ensures.value in
    let judged : Judged c.args.routes.now (raw_of c.args.intake.now.reader) (admit c.args.admission.end c.enter.new.intake.route c.enter.new.intake.param.items c.args.admission.accept c.args.admission.protocol) =
    subst (λ (z : ℕ). Judged c.args.routes.now (raw_of c.args.intake.now.reader) (admit c.args.admission.end z c.enter.new.intake.param.items c.args.admission.accept c.args.admission.protocol)) (sym c.enter.ensures.route)
    (subst (λ (z : List ℕ). Judged c.args.routes.now (raw_of c.args.intake.now.reader) (admit c.args.admission.end c.args.admission.route z c.args.admission.accept c.args.admission.protocol)) (sym c.enter.ensures.param) c.requires.judged) in
    let text : c.deref.result.now ≡ answer_text c.args.routes.now (admit c.args.admission.end c.enter.new.intake.route c.enter.new.intake.param.items c.args.admission.accept c.args.admission.protocol) =
    put ∙ ap (λ (z : ℕ). answer_text c.args.routes.now (admit c.args.admission.end z c.args.admission.param.items c.args.admission.accept c.args.admission.protocol)) (sym c.enter.ensures.route)
    ∙ ap (λ (z : List ℕ). answer_text c.args.routes.now (admit c.args.admission.end c.enter.new.intake.route z c.args.admission.accept c.args.admission.protocol)) (sym c.enter.ensures.param) in
    let opens = c.open.ensures.opens in
    let first = keep_opened (beginning g.H.Handler (admits c.args.guard.now.rule) start config c.args.routes.now) c.args.conn.0 c.args.admission.end c.args.admission.accept c.args.admission.protocol c.deref.result.now _ opens.between _ _ _ (intake_view c.args.intake.now) (intake_view c.enter.new.intake) _ refl c.requires.phase
    judged c.requires.end c.enter.ensures.ahead text opens.proceeds opens.appends opens.state opens.served c.open.ensures.table in
    let frames = subst (λ (z : List ℕ). KeepsOne (beginning g.H.Handler (admits c.args.guard.now.rule) start config c.args.routes.now) c.args.conn.0 (Some c.args.conn.0) None (view_of c.enter.new.intake.reader c.enter.new.intake.route z) (view_of c.read_frames.new.reader c.enter.new.intake.route z) (at g.N.Net g.W.Watch c.open.new.hub c.open.new.out) (g.H.Handler.state c.open.new.handler) (at g.N.Net g.W.Watch c.read_frames.new.hub c.read_frames.new.out) (g.H.Handler.state c.read_frames.new.handler))
    c.as_slice.ensures.value (c.read_frames.ensures.kept c.args.routes.now start config) in
    keep_one_then (beginning g.H.Handler (admits c.args.guard.now.rule) start config c.args.routes.now) c.args.conn.0 _ _ _ _ _ _ _ _ _ _ _ _ first frames
