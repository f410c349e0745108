use Rattle.made_schedule.proofs.All.{[], ◌∷◌, ◌∙◌, ap, Turn, length, is_sound, openings, rounds, made_length, made_open, put_three}
use Rattle.made_schedule.proofs.schedule.made.Goals as goal

pub returns-clause-acts : goal.returns-clause-acts
returns-clause-acts c = put_three c.new-schedule.result c.push_openings.new.schedule c.push.new.self c.push_rounds.new.schedule (openings 64) (Turn ∷ []) (rounds 500 c.args.seed)
    c.new-schedule.ensures c.in_ok-push_openings.ensures c.in_ok-push.ensures.pushed c.in_ok-push_rounds.ensures

pub returns-clause-sound : goal.returns-clause-sound
returns-clause-sound c = ap is_sound (returns-clause-acts c) ∙ (made_open c.args.seed).sound

pub returns-clause-count : goal.returns-clause-count
returns-clause-count c = ap length (returns-clause-acts c) ∙ made_length c.args.seed
