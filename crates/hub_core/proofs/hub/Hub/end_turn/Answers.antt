use Rattle.hub_core.proofs.All.{◌≡◌, ◌≢◌, ◌<◌, ◌≤◌, ℕ, refl, sym, ap, ◌∙◌, subst, Ending, HubState, server, entry_at, nothing, Appends, EndsTurn, IsTable, table_of, none_at_zero, finishing_step, finishing_ends, appends_finished, is_known}
use Rattle.hub_core.proofs.hub.Hub.end_turn.Goals as goal

pub walk-init : goal.walk-init
walk-init g c = record {
  ties = c.requires.ties;
  named = refl;
  finishing = rw (← c.self.view_is) (none_at_zero _ (g.N.Net.state c.args.out.now.net) (g.W.Watch.told c.args.out.now.watch) c.self.invariant.table);
}

pub walk-preserved : goal.walk-preserved
walk-preserved g c =
    let next = c.in-Some.ensures in
    let ending : (entry_at c.walk.self c.in-Some.conn.0).phase ≡ Ending = ap (λ (z : HubState). (entry_at z c.in-Some.conn.0).phase) (sym c.self-in-walk.view_is) ∙ next.1 in
    let known : c.in-Some.conn.0 ≤ c.walk.self.named = is_known c.walk.self c.in-Some.conn.0 (subst (λ (z : HubState). IsTable (table_of z)) c.self-in-walk.view_is c.self-in-walk.invariant.table) ending in
    record {
      ties = c.finish.ensures.ties;
      named = c.finish.ensures.named ∙ c.walk.invariant.named;
      finishing = finishing_step c.walk.after.0 c.in-Some.conn.0 (server c.args.self.now (g.N.Net.state c.args.out.now.net) (g.W.Watch.told c.args.out.now.watch)) (server c.walk.self (g.N.Net.state c.walk.out.net) (g.W.Watch.told c.walk.out.watch)) (server c.finish.new.self (g.N.Net.state c.finish.new.out.net) (g.W.Watch.told c.finish.new.out.watch))
          c.walk.invariant.finishing c.finish.ensures.finishes next.0 known (subst (λ (z : ℕ). c.in-Some.conn.0 ≤ z) c.walk.invariant.named known) ending
          (subst (λ (z : HubState). (d : ℕ) → c.walk.after.0 < d → d < c.in-Some.conn.0 → (entry_at z d).phase ≢ Ending) c.self-in-walk.view_is next.2);
    }

pub returns-clause-ends : goal.returns-clause-ends
returns-clause-ends g c =
    subst (λ (z : HubState). EndsTurn (server c.args.self.now (g.N.Net.state c.args.out.now.net) (g.W.Watch.told c.args.out.now.watch)) (server z (g.N.Net.state c.walk.out.net) (g.W.Watch.told c.note.new.self))) (sym c.settle.ensures.others)
    (finishing_ends c.walk.invariant.finishing c.settle.new.self.tellings (g.W.Watch.told c.note.new.self) c.note.ensures
    (subst (λ (z : HubState). (d : ℕ) → c.walk.after.0 < d → (entry_at z d).phase ≢ Ending) c.self-in-walk.view_is c.in_default.ensures) c.settle.ensures.told)

pub returns-clause-appends : goal.returns-clause-appends
returns-clause-appends g c =
    subst (λ (z : HubState). Appends nothing (server c.args.self.now (g.N.Net.state c.args.out.now.net) (g.W.Watch.told c.args.out.now.watch)) (server z (g.N.Net.state c.walk.out.net) (g.W.Watch.told c.note.new.self))) (sym c.settle.ensures.others)
    (appends_finished c.walk.invariant.finishing c.settle.new.self.tellings (g.W.Watch.told c.note.new.self) c.note.ensures)
