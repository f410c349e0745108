use Rattle.hub_tellings.proofs.All.{◌+◌, ap, ◌∙◌, subst, sym, ℕ, Option, option_map, slice_get, IsGapFor, IsNextRow, IsRowAt, next_found, next_missed}
use Rattle.hub_tellings.proofs.tellings.Tellings.next.Goals as goal

pub returns-in-Ok : goal.returns-in-Ok
returns-in-Ok c = rw (← c.self.view_is) (subst (λ (o : Option ℕ). IsNextRow c.self.inside.rows.items c.args.after.0 o) (sym (c.conn_at.ensures ∙ ap (λ rows. option_map (λ row. row.conn) (slice_get rows (c.in-Ok.place + 1))) c.deref-in-Ok.ensures.value))
    (next_found c.self.inside.rows.items c.args.after.0 c.in-Ok.place c.self.invariant (subst (λ rows. IsRowAt rows c.args.after.0 c.in-Ok.place) c.deref.ensures.value c.in-Ok.ensures.found)))

pub returns-in-Err : goal.returns-in-Err
returns-in-Err c = rw (← c.self.view_is) (subst (λ (o : Option ℕ). IsNextRow c.self.inside.rows.items c.args.after.0 o) (sym (c.conn_at-in-Err.ensures ∙ ap (λ rows. option_map (λ row. row.conn) (slice_get rows c.in-Err.place)) c.deref-in-Err.ensures.value))
    (next_missed c.self.inside.rows.items c.args.after.0 c.in-Err.place c.self.invariant (subst (λ rows. IsGapFor rows c.args.after.0 c.in-Err.place) c.deref.ensures.value c.in-Err.ensures.missed)))
