use Rattle.loop_runner.proofs.All.{admits, ◌≡◌, Option, Some, None, false, sym, ap, ◌∙◌, subst, Phase, Open, Leaving, phase_at, has_frames, step_is_read, beginning, HasFrames, step_sound, keep_rest, frames_after, taken_after, Every, steps_same}
use Rattle.loop_runner.proofs.frames.read_frame.Goals as goal

pub take_open-requires-clause-sound : goal.take_open-requires-clause-sound
take_open-requires-clause-sound g c = step_sound c.args.reader.now c.next.follows.lender-at-none c.next.result c.next.follows.holds-at-none

pub take_leaving-requires-clause-sound : goal.take_leaving-requires-clause-sound
take_leaving-requires-clause-sound g c = step_sound c.args.reader.now c.next-in-Some-Leaving.follows.lender-at-none c.next-in-Some-Leaving.result c.next-in-Some-Leaving.follows.holds-at-none

pub returns-in-Some-Open-clause-frames : goal.returns-in-Some-Open-clause-frames
returns-in-Some-Open-clause-frames g c told =
    let at : phase_at c.args.hub.now c.args.conn.0 ≡ Some Open = sym c.phase.ensures ∙ c.in-Some-Open.is ∙ ap (λ (z : Phase). Some z) c.in-Some-Open.field-0-is in
    frames_after (phase_at c.args.hub.now c.args.conn.0) _ c.next.result c.args.reader.now _ c.next.follows.holds-at-none (subst (λ (z : Option Phase). HasFrames z c.args.reader.now) at c.requires.frames) (ap has_frames at)
    (c.take_open.ensures.steps.phase c.args.conn.0 (tt {0})) c.take_open.ensures.last

pub returns-in-Some-Open-clause-taken : goal.returns-in-Some-Open-clause-taken
returns-in-Some-Open-clause-taken g c none =
    let at : phase_at c.args.hub.now c.args.conn.0 ≡ Some Open = sym c.phase.ensures ∙ c.in-Some-Open.is ∙ ap (λ (z : Phase). Some z) c.in-Some-Open.field-0-is in
    taken_after (phase_at c.args.hub.now c.args.conn.0) _ c.next.result c.args.reader.now _ c.next.follows.holds-at-none (subst (λ (z : Option Phase). HasFrames z c.args.reader.now) at c.requires.frames) (ap has_frames at)
    (c.take_open.ensures.steps.phase c.args.conn.0 (tt {0})) (c.take_open.ensures.more none)

pub returns-in-Some-Leaving-clause-frames : goal.returns-in-Some-Leaving-clause-frames
returns-in-Some-Leaving-clause-frames g c told =
    let at : phase_at c.args.hub.now c.args.conn.0 ≡ Some Leaving = sym c.phase.ensures ∙ c.in-Some-Leaving.is ∙ ap (λ (z : Phase). Some z) c.in-Some-Leaving.field-0-is in
    let next = c.next-in-Some-Leaving in
    frames_after (phase_at c.args.hub.now c.args.conn.0) _ next.result c.args.reader.now _ next.follows.holds-at-none (subst (λ (z : Option Phase). HasFrames z c.args.reader.now) at c.requires.frames) (ap has_frames at)
    (c.take_leaving.ensures.steps.phase c.args.conn.0 (tt {0})) c.take_leaving.ensures.last

pub returns-in-Some-Leaving-clause-taken : goal.returns-in-Some-Leaving-clause-taken
returns-in-Some-Leaving-clause-taken g c none =
    let at : phase_at c.args.hub.now c.args.conn.0 ≡ Some Leaving = sym c.phase.ensures ∙ c.in-Some-Leaving.is ∙ ap (λ (z : Phase). Some z) c.in-Some-Leaving.field-0-is in
    let next = c.next-in-Some-Leaving in
    taken_after (phase_at c.args.hub.now c.args.conn.0) _ next.result c.args.reader.now _ next.follows.holds-at-none (subst (λ (z : Option Phase). HasFrames z c.args.reader.now) at c.requires.frames) (ap has_frames at)
    (c.take_leaving.ensures.steps.phase c.args.conn.0 (tt {0})) (c.take_leaving.ensures.more none)

pub returns-in-Some-Open-clause-kept : goal.returns-in-Some-Open-clause-kept
returns-in-Some-Open-clause-kept g c = λ table. c.take_open.ensures.kept table _ _ (step_is_read c.args.reader.now _ c.next.result c.next.follows.holds-at-none)

pub returns-in-Some-Leaving-clause-kept : goal.returns-in-Some-Leaving-clause-kept
returns-in-Some-Leaving-clause-kept g c = λ table.
    c.take_leaving.ensures.kept (admits c.args.guard.now.rule) table _ _ c.args.route c.args.param.now (step_is_read c.args.reader.now _ c.next-in-Some-Leaving.result c.next-in-Some-Leaving.follows.holds-at-none)

pub returns-in-Some-Head-clause-kept : goal.returns-in-Some-Head-clause-kept
returns-in-Some-Head-clause-kept g c = λ table start config. keep_rest (beginning g.H.Handler (admits c.args.guard.now.rule) start config table) c.args.conn.0 c.args.route c.args.param.now c.args.reader.now _ _ c.requires.frames
    (ap has_frames (sym c.phase.ensures ∙ c.in-Some-Head.is ∙ ap (λ (z : Phase). Some z) c.in-Some-Head.field-0-is))

pub returns-in-Some-Ending-clause-kept : goal.returns-in-Some-Ending-clause-kept
returns-in-Some-Ending-clause-kept g c = λ table start config. keep_rest (beginning g.H.Handler (admits c.args.guard.now.rule) start config table) c.args.conn.0 c.args.route c.args.param.now c.args.reader.now _ _ c.requires.frames
    (ap has_frames (sym c.phase.ensures ∙ c.in-Some-Ending.is ∙ ap (λ (z : Phase). Some z) c.in-Some-Ending.field-0-is))

pub returns-in-Some-Gone-clause-kept : goal.returns-in-Some-Gone-clause-kept
returns-in-Some-Gone-clause-kept g c = λ table start config. keep_rest (beginning g.H.Handler (admits c.args.guard.now.rule) start config table) c.args.conn.0 c.args.route c.args.param.now c.args.reader.now _ _ c.requires.frames
    (ap has_frames (sym c.phase.ensures ∙ c.in-Some-Gone.is ∙ ap (λ (z : Phase). Some z) c.in-Some-Gone.field-0-is))

pub returns-in-None-clause-kept : goal.returns-in-None-clause-kept
returns-in-None-clause-kept g c = λ table start config. keep_rest (beginning g.H.Handler (admits c.args.guard.now.rule) start config table) c.args.conn.0 c.args.route c.args.param.now c.args.reader.now _ _ c.requires.frames (ap has_frames (sym c.phase.ensures ∙ c.in-None.is))

pub returns-in-Some-Head-clause-steps : goal.returns-in-Some-Head-clause-steps
returns-in-Some-Head-clause-steps g c = steps_same Every _

pub returns-in-Some-Ending-clause-steps : goal.returns-in-Some-Ending-clause-steps
returns-in-Some-Ending-clause-steps g c = steps_same Every _

pub returns-in-Some-Gone-clause-steps : goal.returns-in-Some-Gone-clause-steps
returns-in-Some-Gone-clause-steps g c = steps_same Every _

pub returns-in-None-clause-steps : goal.returns-in-None-clause-steps
returns-in-None-clause-steps g c = steps_same Every _
