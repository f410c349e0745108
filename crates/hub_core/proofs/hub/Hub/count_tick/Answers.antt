use Rattle.hub_core.proofs.All.{◌≡◌, true, sym, ap, ◌∙◌, subst, Recounts, HubState, is_present, one_heard, next_count, leaves_at, counts_at, is_ping_due, is_end_due, ping_due_at, end_due_at, hub_of, plain_recounts, hub_recounted, ticks_as, heard_as, due_as, falsely, not, is_gone, entry_of}
use Rattle.hub_core.proofs.hub.Hub.count_tick.Goals as goal

pub tick-requires : goal.tick-requires
tick-requires c = record { present = falsely (is_gone (entry_of c.self.inside.table.entries c.args.conn.0).phase) (ap (λ (z : HubState). not (is_gone (entry_of z.entries c.args.conn.0).phase)) c.self.view_is ∙ c.requires) }

pub invariant_of-self : goal.invariant_of-self
invariant_of-self c = hub_recounted c.self.invariant c.tick.ensures.entry c.tick.ensures.elsewhere c.tick.ensures.table

pub returns-clause-counts : goal.returns-clause-counts
returns-clause-counts c = rw (← c.self.view_is) (plain_recounts c.self.inside.topics c.self.inside.tellings c.tick.ensures.entry (ticks_as (hub_of c.self.inside.table c.self.inside.topics c.self.inside.tellings) c.args.conn.0 (subst (λ (z : HubState). is_present z c.args.conn.0 ≡ true) (sym c.self.view_is) c.requires)) c.tick.ensures.due c.tick.ensures.elsewhere c.tick.ensures.table)

pub returns-clause-ping : goal.returns-clause-ping
returns-clause-ping c = rw (← c.self.view_is) (c.tick.ensures.ping ∙ due_as is_ping_due (hub_of c.self.inside.table c.self.inside.topics c.self.inside.tellings) c.args.conn.0 (subst (λ (z : HubState). is_present z c.args.conn.0 ≡ true) (sym c.self.view_is) c.requires))

pub returns-clause-end : goal.returns-clause-end
returns-clause-end c = rw (← c.self.view_is) (c.tick.ensures.end ∙ due_as is_end_due (hub_of c.self.inside.table c.self.inside.topics c.self.inside.tellings) c.args.conn.0 (subst (λ (z : HubState). is_present z c.args.conn.0 ≡ true) (sym c.self.view_is) c.requires))
