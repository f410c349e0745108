use Rattle.loop_runner.proofs.All.{◌≡◌, ◌∙◌, ℕ, Bool, sym, ap, rules, filter, nat_cmp, lookup, is_at, lookup-filter-keys, filter_same_pairs, has_entry, Intake, at_key}
use Rattle.loop_runner.proofs.intakes.Intakes.keep_entries.Goals as goal

pub returns-clause-kept : goal.returns-clause-kept
returns-clause-kept c conn =
    let has : ℕ → Bool = has_entry c.args.hub.now.entries in
    let filtered : c.retain.new.self.entries ≡ filter (λ (e : ℕ × Intake). has e.0) c.args.self.now.all.entries =
    filter_same_pairs _ (λ (e : ℕ × Intake). has e.0) _ (λ k v b w f t. search rules) _ _ c.retain.ensures.filtered in
    ap (lookup (is_at (nat_cmp conn))) filtered
    ∙ lookup-filter-keys (is_at (nat_cmp conn)) has (has conn) (λ k e. ap has (sym (at_key conn k e))) c.args.self.now.all.entries
