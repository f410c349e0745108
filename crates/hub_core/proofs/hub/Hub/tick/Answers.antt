use Rattle.hub_core.proofs.All.{◌≡◌, false, [], ◌∷◌, refl, sym, ap, ◌∙◌, subst, Some, None, tick, HubState, Entry, is_present, is_gone, not, server, Notices, notices_none, notes_nobody, IsNextEntry, TicksBelow, ticks_start, ticks_on, ticks_end, none_there}
use Rattle.hub_core.proofs.hub.Hub.tick.Given as given
use Rattle.hub_core.proofs.hub.Hub.tick.Goals as goal
use Rattle.hub_core.proofs.hub.Hub.tick.Goals.{After-note}

notices : (g : given.Over) (c : After-note g) → Notices 0 tick (server c.args.self.now (g.N.Net.state c.args.out.now.net) (g.W.Watch.told c.args.out.now.watch)) (server c.args.self.now (g.N.Net.state c.args.out.now.net) (g.W.Watch.told c.note.new.self))
notices g c = notices_none 0 tick c.args.self.now (g.N.Net.state c.args.out.now.net) (g.W.Watch.told c.args.out.now.watch) (g.W.Watch.told c.note.new.self) c.note.ensures refl (λ d. refl) (notes_nobody c.args.self.now tick (λ d. refl) (λ d t. refl))

pub walk-init : goal.walk-init
walk-init g c = record {
  ties = c.requires.ties;
  named = refl;
  so_far = ticks_start (server c.args.self.now (g.N.Net.state c.args.out.now.net) (g.W.Watch.told c.args.out.now.watch)) (server c.args.self.now (g.N.Net.state c.args.out.now.net) (g.W.Watch.told c.note.new.self))
      (record { advances = (notices g c).advances; fails = (notices g c).fails }) (notices g c).appends refl (rw (← c.self.view_is) (none_there c.self.inside.topics c.self.inside.tellings c.self.invariant.table));
}

pub walk-preserved : goal.walk-preserved
walk-preserved g c = record {
  ties = c.tick_one.ensures.ties;
  named = c.tick_one.ensures.named ∙ c.walk.invariant.named;
  so_far = ticks_on c.walk.after.0 c.in-Some.conn.0 (server c.args.self.now (g.N.Net.state c.args.out.now.net) (g.W.Watch.told c.args.out.now.watch)) (server c.walk.self (g.N.Net.state c.walk.out.net) (g.W.Watch.told c.walk.out.watch)) (server c.tick_one.new.self (g.N.Net.state c.tick_one.new.out.net) (g.W.Watch.told c.tick_one.new.out.watch))
      (subst (λ (z : HubState). IsNextEntry z.entries c.walk.after.0 (Some c.in-Some.conn.0)) c.self-in-walk.view_is c.in-Some.ensures) c.walk.invariant.so_far c.tick_one.ensures.ticks;
}

pub returns-clause-ticks : goal.returns-clause-ticks
returns-clause-ticks g c = ticks_end c.walk.after.0 (server c.args.self.now (g.N.Net.state c.args.out.now.net) (g.W.Watch.told c.args.out.now.watch)) (server c.walk.self (g.N.Net.state c.walk.out.net) (g.W.Watch.told c.walk.out.watch))
    (subst (λ (z : HubState). IsNextEntry z.entries c.walk.after.0 None) c.self-in-walk.view_is c.in_default.ensures) c.walk.invariant.so_far
