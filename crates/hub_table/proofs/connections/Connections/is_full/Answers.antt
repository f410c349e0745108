use Rattle.hub_table.proofs.All.{ℕ, ◌∙◌, sym, ap, length, nat_eq, TableState, entries_of, length_entries, is_table}
use Rattle.hub_table.proofs.connections.Connections.is_full.Goals as goal

pub returns-clause-table : goal.returns-clause-table
returns-clause-table c = rw (← c.self.view_is) (is_table c.self.invariant.kept)

pub returns-clause-value : goal.returns-clause-value
returns-clause-value c =
    ap (λ (z : ℕ). nat_eq z c.max_conns.result) (c.count.ensures ∙ sym (length_entries c.self.inside.table.all))
    ∙ ap (λ (z : ℕ). nat_eq (length (entries_of c.self.inside.table.all)) z) c.max_conns.ensures.value
    ∙ ap (λ (z : TableState). nat_eq (length z.entries) z.config.max_conns) c.self.view_is
