use Rattle.loop_runner.proofs.All.{admits, None, sym, subst, rules, HubState, server, parting_value, KeptAll, beginning, Every, fewer_then, steps_taken, taken_fewer, taken_was, running_steps, steps_then, Steps, at, steps_same}
use Rattle.loop_runner.proofs.closing.close_next.Goals as goal

pub close-requires : goal.close-requires
close-requires g c =
    let out = c.in-Some.ensures in
    record {
      running = running_steps Every _ _ _ c.requires.running
          (steps_taken (parting_value c.in-Some.parting) c.args.hub.now c.next_closed.new.self out.due c.next_closed.ensures.pairs (g.N.Net.state c.args.out.now.net) (g.W.Watch.told c.args.out.now.watch) c.next_closed.ensures.tellings (out.appends (g.N.Net.state c.args.out.now.net) (g.W.Watch.told c.args.out.now.watch)) (out.ties (g.N.Net.state c.args.out.now.net) (g.W.Watch.told c.args.out.now.watch)) out.table);
    }

pub returns-in-Some-clause-fewer : goal.returns-in-Some-clause-fewer
returns-in-Some-clause-fewer g c _ =
    let out = c.in-Some.ensures in
    fewer_then _ _ _ c.close.ensures.steps (taken_fewer (parting_value c.in-Some.parting) c.args.hub.now c.next_closed.new.self out.due c.next_closed.ensures.pairs c.requires.running.table)

pub returns-in-None-clause-keeps : goal.returns-in-None-clause-keeps
returns-in-None-clause-keeps g c = record {
  running = search rules;
  steps = subst (λ (z : HubState). Steps Every (at g.N.Net g.W.Watch c.args.hub.now c.args.out.now) (at g.N.Net g.W.Watch z c.args.out.now)) (sym c.in-None.ensures.none) (steps_same Every _);
  kept = λ table start config views are k. (
    views,
    are,
    subst (λ (z : HubState). KeptAll (beginning g.H.Handler (admits c.args.guard.now.rule) start config table) (server z (g.N.Net.state c.args.out.now.net) (g.W.Watch.told c.args.out.now.watch)) (g.H.Handler.state c.args.handler.now) views None) (sym c.in-None.ensures.none) k,
  );
}

pub returns-in-Some-clause-keeps : goal.returns-in-Some-clause-keeps
returns-in-Some-clause-keeps g c =
    let out = c.in-Some.ensures in
    record {
      running = c.close.ensures.running;
      steps = steps_then Every _ _ _ (steps_taken (parting_value c.in-Some.parting) c.args.hub.now c.next_closed.new.self out.due c.next_closed.ensures.pairs (g.N.Net.state c.args.out.now.net) (g.W.Watch.told c.args.out.now.watch) c.next_closed.ensures.tellings (out.appends (g.N.Net.state c.args.out.now.net) (g.W.Watch.told c.args.out.now.watch)) (out.ties (g.N.Net.state c.args.out.now.net) (g.W.Watch.told c.args.out.now.watch)) out.table) c.close.ensures.steps;
      kept = c.close.ensures.kept c.args.hub.now (record {
        taken = out.due;
        pairs = c.next_closed.ensures.pairs;
        tellings = c.next_closed.ensures.tellings;
        appends = out.appends (g.N.Net.state c.args.out.now.net) (g.W.Watch.told c.args.out.now.watch);
        admitted = c.requires.running.kept c.in-Some.parting.conn.0 (taken_was (parting_value c.in-Some.parting) c.args.hub.now c.next_closed.new.self out.due c.next_closed.ensures.pairs);
      });
    }
