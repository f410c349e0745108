use Rattle.ws_program.proofs.All.{◌≡◌, ◌∙◌, [], ap, sym, subst, arith, MemNetState, net_state, start_net, told_by, server, between_first, bus_beginning, first_few, kept_first, lived_first, never_failed, no_views, not_stopped, one_turn, there_at_first, views_at_first}
use Rattle.ws_kinds.specs.ConfigValue.{usual_config}
use Rattle.loop_runner.specs.Turns.{PassesTurns}
use Rattle.topic_guard.specs.Admits.{admits}
use Rattle.ws_program.specs.Begun.{can_begin}
use Rattle.ws_program.proofs.made.first_turn.Goals as goal

pub unreachable-requires : goal.unreachable-requires
unreachable-requires g c =
    not_stopped c.args.out.now.net.acts c.run-ran.new.out.net c.is_whole.ensures.follows (let z = c.run-ran.ensures.grows.schedule in cc) c.requires.can c.args.out.now.net c.requires.starts c.in-Stopped.field-0 c.in-Stopped.ensures.runs

pub unreachable-requires-in-NetFault : goal.unreachable-requires-in-NetFault
unreachable-requires-in-NetFault g c =
    never_failed usual_config c.args.out.now.net.acts c.run-ran.new.hub c.run-ran.new.out.net c.run-ran.new.out.watch c.args.out.now.net c.requires.starts c.requires.can.0 c.is_whole.ensures.follows c.run-ran.ensures.grows.schedule 1 c.in-NetFault.ensures.runs

pub returns-clause-acts : goal.returns-clause-acts
returns-clause-acts g c = let z = c.run-ran.ensures.grows.schedule in cc

pub returns-clause-begun : goal.returns-clause-begun
returns-clause-begun g c =
    let rule = admits c.args.guard.now.rule in
    let new = c.requires.new in
    let hub = c.args.server.now.hub in
    let table = c.args.server.now.routes in
    let start = c.args.out.now.net in
    let watch = c.args.out.now.watch in
    let net = c.run-ran.new.out.net in
    let acts_are : net.acts ≡ start.acts = (let z = c.run-ran.ensures.grows.schedule in cc) in
    let whole = c.is_whole.ensures.watch c.if-not-is_whole.false in
    let few = first_few start.acts net c.is_whole.ensures.follows acts_are c.requires.can start c.requires.starts c.in-Spent.ensures.runs in
    let are = views_at_first c.args.server.now.intakes new.none in
    let kept = kept_first rule usual_config start.acts table hub start watch c.requires.configured new.entries new.pairs new.partings new.tellings new.table c.requires.starts c.requires.unnoted in
    let there = there_at_first start.acts hub start (told_by watch) c.requires.starts in
    let between = between_first watch c.requires.unnoted in
    let (later, viewed, last) = c.run-ran.ensures.kept (tt {0}) usual_config no_views few are kept in
    record {
      can = subst can_begin (sym acts_are) c.requires.can;
      of_bus = new.of_bus;
      follows = c.is_whole.ensures.follows;
      passes = subst (λ (n : MemNetState). PassesTurns 1 [] (net_state n) (net_state net)) (c.requires.starts ∙ ap start_net (sym acts_are)) c.in-Spent.ensures.runs;
      whole = whole;
      few = c.is_whole.ensures.few;
      one = one_turn watch c.run-ran.new.out.watch c.requires.unnoted whole c.in-Spent.ensures.noted;
      behind = record {
        ready = c.run-ran.ensures.ready;
        views = later;
        are = viewed;
        kept = last;
        there = c.run-ran.ensures.there there;
        right = c.run-ran.ensures.right (tt {0}) usual_config no_views few are kept;
        settled = c.run-ran.ensures.settled (omega arith) (tt {0}) usual_config no_views few are kept there between;
        throughout = c.run-ran.ensures.throughout (tt {0}) usual_config no_views few are kept (lived_first (bus_beginning rule usual_config table) (server hub (net_state start) (told_by watch)) (ap told_by c.requires.unnoted));
        between = c.run-ran.ensures.between between;
        last = c.run-ran.ensures.last (omega arith);
      };
    }
