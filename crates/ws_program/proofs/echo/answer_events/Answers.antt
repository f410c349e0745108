use Rattle.ws_program.proofs.All.{◌∷◌, [], ◌++◌, ◌∙◌, TellsAlike-trans, answers_then, goes_on_then, answers_all_then, short_after}
use Rattle.ws_program.specs.declared.answers.Answered.TheVariants as answered
use Rattle.ws_program.proofs.echo.answer_events.Goals as goal

pub returns-in-All-clause-all : goal.returns-in-All-clause-all
returns-in-All-clause-all g c =
    let (events, told, on) = c.events.invariant.told in
    answers_all_then answered.All c.args.reader.now c.events.reader c.answer_next.new.reader events _ _ _ _ _ c.answer_next.new.answers told on c.in-All.ensures.next

pub returns-in-Closed-clause-all : goal.returns-in-Closed-clause-all
returns-in-Closed-clause-all g c =
    let (events, told, on) = c.events.invariant.told in
    answers_all_then answered.Closed c.args.reader.now c.events.reader c.answer_next.new.reader events _ _ _ _ _ c.answer_next.new.answers told on c.in-Closed.ensures.next

pub returns-in-Failed-clause-all : goal.returns-in-Failed-clause-all
returns-in-Failed-clause-all g c =
    let (events, told, on) = c.events.invariant.told in
    answers_all_then answered.Failed c.args.reader.now c.events.reader c.answer_next.new.reader events _ _ _ _ _ c.answer_next.new.answers told on c.in-Failed.ensures.next

pub events-preserved : goal.events-preserved
events-preserved g c =
    let (events, told, on) = c.events.invariant.told in
    let (event, next, goes, fewer) = c.in-One.ensures.next in
    record {
      told = (
        events ++ event ∷ [],
        answers_then c.args.reader.now c.events.reader c.answer_next.new.reader events (event ∷ []) _ _ _ _ _ _ told next,
        goes_on_then c.args.reader.now c.events.reader c.answer_next.new.reader events (event ∷ []) on goes,
      );
      short = short_after c.events.reader c.answer_next.new.reader (event ∷ []) _ _ _ _ next c.events.invariant.short;
      tells = TellsAlike-trans _ _ _ c.events.invariant.tells c.in-One.ensures.tells;
      unfailing = c.in-One.ensures.cause ∙ c.events.invariant.unfailing;
    }
