use Rattle.hub_core.proofs.All.{◌≡◌, true, sym, ap, ◌∙◌, subst, Recounts, HubState, is_present, one_heard, next_count, leaves_at, counts_at, is_ping_due, is_end_due, ping_due_at, end_due_at, hub_of, plain_recounts, hub_recounted, ticks_as, heard_as, due_as, falsely, not, is_gone, entry_of}
use Rattle.hub_core.proofs.hub.Hub.hear.Goals as goal

pub heard-requires : goal.heard-requires
heard-requires c = record { present = falsely (is_gone (entry_of c.self.inside.table.entries c.args.conn.0).phase) (ap (λ (z : HubState). not (is_gone (entry_of z.entries c.args.conn.0).phase)) c.self.view_is ∙ c.requires) }

pub invariant_of-self : goal.invariant_of-self
invariant_of-self c = hub_recounted c.self.invariant c.heard.ensures.entry c.heard.ensures.elsewhere c.heard.ensures.table

pub returns : goal.returns
returns c = rw (← c.self.view_is) (plain_recounts c.self.inside.topics c.self.inside.tellings c.heard.ensures.entry (heard_as (hub_of c.self.inside.table c.self.inside.topics c.self.inside.tellings) c.args.conn.0 (subst (λ (z : HubState). is_present z c.args.conn.0 ≡ true) (sym c.self.view_is) c.requires)) c.heard.ensures.due c.heard.ensures.elsewhere c.heard.ensures.table)
