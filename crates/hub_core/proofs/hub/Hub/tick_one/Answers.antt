use Rattle.hub_core.proofs.All.{◌≡◌, true, false, refl, sym, ap, ◌∙◌, subst, clash, is_ping, is_end, is_present, server, Appends, nothing, Ties, CountsOne, TicksIfThere, appends_stay, ties_stay, stays_recounted, counts_one, one_nothing, one_ping, one_end, ping_open, open_there, present_recounted, goes_notes, ping_due_at, progress_recounted, is_open, standings_at, Progress}
use Rattle.hub_core.proofs.hub.Hub.tick_one.Given as given
use Rattle.hub_core.proofs.hub.Hub.tick_one.Goals as goal
use Rattle.hub_core.proofs.hub.Hub.tick_one.Goals.{After-count_tick}

counted : (g : given.Over) (c : After-count_tick g) → CountsOne c.args.conn.0 (server c.args.self.now (g.N.Net.state c.args.out.now.net) (g.W.Watch.told c.args.out.now.watch)) (server c.count_tick.new.self (g.N.Net.state c.args.out.now.net) (g.W.Watch.told c.args.out.now.watch))
counted g c = counts_one c.count_tick.ensures.counts (g.N.Net.state c.args.out.now.net) (g.W.Watch.told c.args.out.now.watch) (appends_stay (stays_recounted c.count_tick.ensures.counts) (g.N.Net.state c.args.out.now.net) (g.W.Watch.told c.args.out.now.watch))

tied : (g : given.Over) (c : After-count_tick g) → Ties (server c.count_tick.new.self (g.N.Net.state c.args.out.now.net) (g.W.Watch.told c.args.out.now.watch))
tied g c = ties_stay (stays_recounted c.count_tick.ensures.counts) (g.N.Net.state c.args.out.now.net) (g.W.Watch.told c.args.out.now.watch) c.requires.ties

there : (g : given.Over) (c : After-count_tick g) → is_present c.count_tick.new.self c.args.conn.0 ≡ true
there g c = present_recounted c.count_tick.ensures.counts c.args.conn.0 ∙ sym c.if-not-is_there.ensures

pub returns-then-not-is_there-clause-ticks : goal.returns-then-not-is_there-clause-ticks
returns-then-not-is_there-clause-ticks g c = record { there = λ t. clash (is_present c.args.self.now c.args.conn.0) (sym c.if-not-is_there.ensures) t; away = λ _. refl }

pub ping-requires-clause-phase : goal.ping-requires-clause-phase
ping-requires-clause-phase g c = open_there c.count_tick.new.self c.args.conn.0 (ap (λ (z : Progress). is_open z.phase) (progress_recounted c.count_tick.ensures.counts c.args.conn.0)
    ∙ ping_open c.args.self.now c.args.conn.0 (sym c.count_tick.ensures.ping ∙ ap is_ping c.in-Ping.is))

pub ping-requires-clause-ties : goal.ping-requires-clause-ties
ping-requires-clause-ties g c = ties_stay (stays_recounted c.count_tick.ensures.counts) (g.N.Net.state c.args.out.now.net) (g.W.Watch.told c.args.out.now.watch) c.requires.ties

pub leave-requires-clause-present : goal.leave-requires-clause-present
leave-requires-clause-present g c = present_recounted c.count_tick.ensures.counts c.args.conn.0 ∙ sym c.if-not-is_there.ensures

pub leave-requires-clause-live : goal.leave-requires-clause-live
leave-requires-clause-live g c = c.requires.ties c.args.conn.0 (sym c.if-not-is_there.ensures)

pub returns-in-Nothing-clause-ties : goal.returns-in-Nothing-clause-ties
returns-in-Nothing-clause-ties g c = ties_stay (stays_recounted c.count_tick.ensures.counts) (g.N.Net.state c.args.out.now.net) (g.W.Watch.told c.args.out.now.watch) c.requires.ties

pub returns-in-Gone-clause-ties : goal.returns-in-Gone-clause-ties
returns-in-Gone-clause-ties g c = c.leave.ensures.ties (ties_stay (stays_recounted c.count_tick.ensures.counts) (g.N.Net.state c.args.out.now.net) (g.W.Watch.told c.args.out.now.watch) c.requires.ties)

pub returns-in-Nothing-clause-ticks : goal.returns-in-Nothing-clause-ticks
returns-in-Nothing-clause-ticks g c = record {
  there = λ _. one_nothing c.args.conn.0 (server c.args.self.now (g.N.Net.state c.args.out.now.net) (g.W.Watch.told c.args.out.now.watch)) (server c.count_tick.new.self (g.N.Net.state c.args.out.now.net) (g.W.Watch.told c.args.out.now.watch)) (counts_one c.count_tick.ensures.counts (g.N.Net.state c.args.out.now.net) (g.W.Watch.told c.args.out.now.watch) (appends_stay (stays_recounted c.count_tick.ensures.counts) (g.N.Net.state c.args.out.now.net) (g.W.Watch.told c.args.out.now.watch)))
      (sym c.count_tick.ensures.ping ∙ ap is_ping c.in-Nothing.is) (sym c.count_tick.ensures.end ∙ ap is_end c.in-Nothing.is);
  away = λ e. clash (is_present c.args.self.now c.args.conn.0) e (sym c.if-not-is_there.ensures);
}

pub returns-in-Ping-clause-ticks : goal.returns-in-Ping-clause-ticks
returns-in-Ping-clause-ticks g c = record {
  there = λ _. one_ping c.args.conn.0 (server c.args.self.now (g.N.Net.state c.args.out.now.net) (g.W.Watch.told c.args.out.now.watch)) (server c.count_tick.new.self (g.N.Net.state c.args.out.now.net) (g.W.Watch.told c.args.out.now.watch)) (counts_one c.count_tick.ensures.counts (g.N.Net.state c.args.out.now.net) (g.W.Watch.told c.args.out.now.watch) (appends_stay (stays_recounted c.count_tick.ensures.counts) (g.N.Net.state c.args.out.now.net) (g.W.Watch.told c.args.out.now.watch)))
      (server c.ping.new.self (g.N.Net.state c.ping.new.out.net) (g.W.Watch.told c.ping.new.out.watch))
      (sym c.count_tick.ensures.ping ∙ ap is_ping c.in-Ping.is) (sym c.count_tick.ensures.end ∙ ap is_end c.in-Ping.is) c.ping.ensures.proceeds c.ping.ensures.appends;
  away = λ e. clash (is_present c.args.self.now c.args.conn.0) e (sym c.if-not-is_there.ensures);
}

pub returns-in-Gone-clause-ticks : goal.returns-in-Gone-clause-ticks
returns-in-Gone-clause-ticks g c =
    let x = goes_notes c.leave.ensures refl refl (ties_stay (stays_recounted c.count_tick.ensures.counts) (g.N.Net.state c.args.out.now.net) (g.W.Watch.told c.args.out.now.watch) c.requires.ties) in
    record {
      there = λ _. one_end c.args.conn.0 (server c.args.self.now (g.N.Net.state c.args.out.now.net) (g.W.Watch.told c.args.out.now.watch)) (server c.count_tick.new.self (g.N.Net.state c.args.out.now.net) (g.W.Watch.told c.args.out.now.watch)) (counts_one c.count_tick.ensures.counts (g.N.Net.state c.args.out.now.net) (g.W.Watch.told c.args.out.now.watch) (appends_stay (stays_recounted c.count_tick.ensures.counts) (g.N.Net.state c.args.out.now.net) (g.W.Watch.told c.args.out.now.watch)))
          (server c.leave.new.self (g.N.Net.state c.leave.new.out.net) (g.W.Watch.told c.leave.new.out.watch))
          (sym c.count_tick.ensures.ping ∙ ap is_ping c.in-Gone.is) (sym c.count_tick.ensures.end ∙ ap is_end c.in-Gone.is) x.makes x.appends;
      away = λ e. clash (is_present c.args.self.now c.args.conn.0) e (sym c.if-not-is_there.ensures);
    }
