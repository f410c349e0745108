use Rattle.schedule_text.proofs.All.{◌∙◌, [], List, subst, Act, flat_map, AllByRecursion, take_all, IsTyped, spelled, schedule_text, Fails, fails_more, prints_next, prints_part, typed_next, read_again}
use Rattle.schedule_text.proofs.printing.print.Goals as goal

pub returns-then-not-write_word-clause-written : goal.returns-then-not-write_word-clause-written
returns-then-not-write_word-clause-written g c = fails_more (flat_map spelled c.args.schedule.now) c.if-not-write_word.ensures

pub returns-then-not-print_act-clause-written : goal.returns-then-not-print_act-clause-written
returns-then-not-print_act-clause-written g c =
    subst (λ (acts : List Act). Fails (schedule_text acts) [] (g.K.Sink.written c.args.sink.now) (g.K.Sink.written c.print_act.new.sink) (g.K.Sink.faults c.args.sink.now) (g.K.Sink.faults c.print_act.new.sink)) c.acts-act-items.ensures
    (prints_part c.acts-act-items.result.now c.acts.act-index (g.K.Sink.written c.args.sink.now) (g.K.Sink.written c.acts.sink) (g.K.Sink.written c.print_act.new.sink) (g.K.Sink.faults c.args.sink.now) (g.K.Sink.faults c.acts.sink) (g.K.Sink.faults c.print_act.new.sink)
    c.act-item.result c.acts-test.true c.act-item.is c.acts.invariant.text c.if-not-print_act.ensures.written)

pub acts-preserved : goal.acts-preserved
acts-preserved g c = record {
  text = prints_next c.acts-act-items.result.now c.acts.act-index (g.K.Sink.written c.args.sink.now) (g.K.Sink.written c.acts.sink) (g.K.Sink.written c.print_act.new.sink) (g.K.Sink.faults c.args.sink.now) (g.K.Sink.faults c.acts.sink) (g.K.Sink.faults c.print_act.new.sink)
      c.act-item.result c.acts-test.true c.act-item.is c.acts.invariant.text c.if-not-print_act.ensures.written;
  typed = typed_next c.acts-act-items.result.now c.acts.act-index c.act-item.result c.acts-test.true c.act-item.is c.acts.invariant.typed c.print_act.ensures.typed;
}

pub returns-clause-again : goal.returns-clause-again
returns-clause-again g c = λ yes.
    let all = take_all c.acts.act-index c.acts-act-items.result.now c.acts-test.false ∙ c.acts-act-items.ensures in
    read_again c.args.schedule.now c.requires (subst (λ (acts : List Act). AllByRecursion IsTyped acts) all c.acts.invariant.typed)
