use Rattle.loop_runner.proofs.All.{◌≡◌, length, rules, Every, keeps_on_then, none_due, nothing_to_tell, owed_same, pass_ends, pass_lasts, pass_starts, running_begun, steps_same, at}
use Rattle.loop_runner.proofs.turn.begin.Goals as goal

pub close_all-requires : goal.close_all-requires
close_all-requires g c = record { running = running_begun _ _ c.requires c.count.ensures.table }

pub returns-then-count-eq0-clause-none : goal.returns-then-count-eq0-clause-none
returns-then-count-eq0-clause-none g c conn =
    let none : length c.args.hub.now.entries ≡ 0 = search rules in
    none_due c.args.hub.now conn c.count.ensures.table none

pub returns-then-count-eq0-clause-keeps : goal.returns-then-count-eq0-clause-keeps
returns-then-count-eq0-clause-keeps g c = record { running = running_begun _ _ c.requires c.count.ensures.table; steps = steps_same Every _; kept = λ table start config views are k. (views, are, k) }

pub returns-then-count-eq0-clause-told : goal.returns-then-count-eq0-clause-told
returns-then-count-eq0-clause-told g c =
    let none : length c.args.hub.now.entries ≡ 0 = search rules in
    let s = at g.N.Net g.W.Watch c.args.hub.now c.args.out.now in
    pass_ends 0 s s (pass_starts s s (owed_same s) c.count.ensures.table) (nothing_to_tell c.args.hub.now none)

pub tell_all-requires : goal.tell_all-requires
tell_all-requires g c = record { running = c.close_all.ensures.keeps.running }

pub close_all-requires-2 : goal.close_all-requires-2
close_all-requires-2 g c = record { running = c.tell_all.ensures.keeps.running }

pub returns-clause-keeps : goal.returns-clause-keeps
returns-clause-keeps g c = keeps_on_then _ _ _ _ _ _ _ (keeps_on_then _ _ _ _ _ _ _ c.close_all.ensures.keeps c.tell_all.ensures.keeps) c.close_all-2.ensures.keeps

pub returns-clause-told : goal.returns-clause-told
returns-clause-told g c =
    let first = c.close_all.ensures.keeps in
    let a = at g.N.Net g.W.Watch c.args.hub.now c.args.out.now in
    let b = at g.N.Net g.W.Watch c.close_all.new.hub c.close_all.new.out in
    let m = at g.N.Net g.W.Watch c.tell_all.new.hub c.tell_all.new.out in
    let d = at g.N.Net g.W.Watch c.close_all-2.new.hub c.close_all-2.new.out in
    pass_lasts 0 a m d (c.tell_all.ensures.told a (pass_starts a b first.steps.onward.telling first.running.table)) c.close_all-2.ensures.keeps.steps.onward.telling
