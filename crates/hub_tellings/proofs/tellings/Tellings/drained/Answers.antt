use Rattle.hub_tellings.proofs.All.{◌∙◌, ap, subst, sym, Tell, IsGapFor, IsRowAt, tell_missed, tell_there}
use Rattle.hub_tellings.proofs.tellings.Tellings.drained.Goals as goal

pub returns-in-Ok : goal.returns-in-Ok
returns-in-Ok c = rw (← c.self.view_is) (c.drained.ensures ∙ sym (ap (λ (z : Tell). z.drained) (tell_there c.self.inside.rows.items c.args.conn.0 c.in-Ok.place c.index.result.now c.self.invariant (subst (λ rows. IsRowAt rows c.args.conn.0 c.in-Ok.place) c.deref.ensures.value c.in-Ok.ensures.found) c.index.ensures)))

pub returns-in-Err : goal.returns-in-Err
returns-in-Err c = rw (← c.self.view_is) (sym (ap (λ (z : Tell). z.drained) (tell_missed c.self.inside.rows.items c.args.conn.0 c.in-Err.field-0 (subst (λ rows. IsGapFor rows c.args.conn.0 c.in-Err.field-0) c.deref.ensures.value c.in-Err.ensures.missed))))
