use Rattle.ws_program.proofs.Below.{◌∙◌, refl, subst, None, RouteTable, server, KeptAll, IsRight, IsSettled, IsLivedThroughout, kept_at_first, lived_first, there_first}
use Rattle.topic_guard.specs.Admits.{admits}
use Rattle.ws_program.specs.Serve.{outer}
use Rattle.ws_program.proofs.RunLemmas.{between_none, bus_beginning, no_views, views_at_first}
use Rattle.ws_program.proofs.ServeLemmas.{notes_of_run}
use Rattle.ws_program.proofs.serve.NewServer.make_turns.Goals as goal

pub returns : goal.returns
returns g c = record {
  port = c.run.ensures.grows.port;
  runs = c.run.ensures.runs;
  noted = c.run.ensures.noted;
  serves = λ unused notes told short few.
      let rule = admits c.args.guard.now.rule in
      let f = c.args.self.now.hub.config in
      let first = c.requires.new in
      let table = c.args.self.now.routes in
      let old = server c.args.self.now.hub (g.N.Net.state c.args.out.now.net) (g.W.Watch.told c.args.out.now.watch) in
      let new = server c.run.new.hub (g.N.Net.state c.run.new.out.net) (g.W.Watch.told c.run.new.out.watch) in
      let are = views_at_first c.args.self.now.intakes first.none in
      let kept = kept_at_first (bus_beginning rule f table) old tt no_views first.entries first.pairs first.partings first.tellings refl first.table unused.unnoted unused.none refl in
      let later = c.run.ensures.kept (tt {0}) f no_views few are kept in
      notes_of_run rule f c.run.new.hub (outer g.N.Net g.W.Watch c.run.new.out) (c.run.ensures.grows.tells ∙ unused.tells) (c.run.ensures.last c.requires.some)
      (subst (λ (t : RouteTable). IsRight (bus_beginning rule f t) new (tt {0})) first.of_bus (c.run.ensures.right (tt {0}) f no_views few are kept))
      (subst (λ (t : RouteTable). IsSettled (bus_beginning rule f t) new) first.of_bus (c.run.ensures.settled c.requires.some (tt {0}) f no_views few are kept (there_first old unused.quiet) (between_none old.told unused.unnoted)))
      (subst (λ (t : RouteTable). IsLivedThroughout (bus_beginning rule f t) new) first.of_bus (c.run.ensures.throughout (tt {0}) f no_views few are kept (lived_first (bus_beginning rule f table) old unused.unnoted)))
      later.0
      (subst (λ (t : RouteTable). KeptAll (bus_beginning rule f t) new (tt {0}) later.0 None) first.of_bus later.2)
      notes told short;
}
