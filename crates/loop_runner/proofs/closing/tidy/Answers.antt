use Rattle.loop_runner.proofs.All.{◌≡◌, ◌∙◌, length, sym, rules, btree_map_len, all_entries}
use Rattle.loop_runner.proofs.closing.tidy.Goals as goal

pub returns-then-count-clause-entries : goal.returns-then-count-clause-entries
returns-then-count-clause-entries c conn =
    let same : btree_map_len c.args.intakes.now.all ≡ length c.args.hub.now.entries = search rules in
    all_entries c.args.hub.now.entries c.args.intakes.now.all conn c.count-2.ensures.table.rising same
    (λ q has. c.requires q (sym (c.count-2.ensures.table.kept q) ∙ has))
