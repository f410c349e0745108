use Rattle.loop_runner.proofs.All.{Every, beginning, settled_ended, ready_of, running_steps, running_tidied, steps_ended, turn_last, keep_ended, views_tidied}
use Rattle.loop_runner.proofs.turn.end_turn.Goals as goal

pub tidy-requires : goal.tidy-requires
tidy-requires g c conn kept =
    let ended = c.end_turn.ensures in
    c.requires.running.kept conn ((steps_ended _ _ ended.ends ended.appends ended.ties ended.table ended.named).kept conn kept)

pub returns : goal.returns
returns g c =
    let ended = c.end_turn.ensures in
    let tidy = c.tidy.ensures in
    let run = c.requires.running in
    let steps = steps_ended _ _ ended.ends ended.appends ended.ties ended.table ended.named in
    record {
      ready = ready_of c.tidy.new.intakes _ (running_tidied Every c.args.intakes.now c.tidy.new.intakes _ (running_steps Every c.args.intakes.now _ _ run steps) tidy.entries tidy.max tidy.kept) tidy.entries ended.settled;
      steps = steps;
      last = turn_last _ _ ended.ends;
      kept = λ admits table answer rest before next few start config views are k. (
        views,
        views_tidied c.args.intakes.now c.tidy.new.intakes c.end_turn.new.self views tidy.entries tidy.kept are,
        keep_ended (beginning g.H.Handler admits start config table) c.args.hub.now before _ _ _ views answer _ rest next few ended.ends ended.appends ended.table ended.settled k,
      );
      settled = λ admits table answer rest before next few start config views are k there.
          settled_ended (beginning g.H.Handler admits start config table) c.args.hub.now before _ _ _ views answer _ rest next few ended.ends ended.appends ended.table ended.settled ended.ties run.waits (λ d. run.asked d (tt {0})) c.requires.none k there;
    }
