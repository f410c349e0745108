use Rattle.ws_program.proofs.All.{◌≡◌, ◌+◌, ◌∙◌, List, ap, subst, arith, count_by, Act, net_state, told_by, RouteTable, server, IsRight, IsSettled, IsLivedThroughout, IsKeptLast, lived_first, is_turn_act, bus_beginning, no_views, never_spent, never_failed, few_passed, has_run, kept_first, views_at_first, there_at_first, between_first}
use Rattle.topic_guard.specs.Admits.{admits}
use Rattle.ws_program.proofs.replay.run_schedule.Goals as goal

pub unreachable-requires : goal.unreachable-requires
unreachable-requires g c =
    let count : c.turns_of.result ≡ count_by is_turn_act c.args.schedule = c.turns_of.ensures ∙ ap (λ (xs : List Act). count_by is_turn_act xs) c.acts.ensures in
    never_spent c.args.config c.args.schedule c.run-ran.new.hub c.run-ran.new.out.net c.run-ran.new.out.watch c.in_ok-net.net c.in_ok-net.ensures c.requires c.is_whole.ensures.follows c.run-ran.ensures.grows.schedule
    (c.turns_of.result + 1) (omega (arith, count)) c.in-Spent.ensures.runs

pub unreachable-requires-in-NetFault : goal.unreachable-requires-in-NetFault
unreachable-requires-in-NetFault g c =
    never_failed c.args.config c.args.schedule c.run-ran.new.hub c.run-ran.new.out.net c.run-ran.new.out.watch c.in_ok-net.net c.in_ok-net.ensures c.requires c.is_whole.ensures.follows c.run-ran.ensures.grows.schedule
    (c.turns_of.result + 1) c.in-NetFault.ensures.runs

pub returns : goal.returns
returns g c =
    let rule = admits c.args.guard.now.rule in
    let f = c.args.config in
    let acts = c.args.schedule in
    let hub = c.run-ran.new.hub in
    let net = c.run-ran.new.out.net in
    let watch = c.run-ran.new.out.watch in
    let start = c.in_ok-net.net in
    let turns = c.turns_of.result + 1 in
    let few = few_passed f acts hub net watch start c.in_ok-net.ensures c.requires c.is_whole.ensures.follows c.run-ran.ensures.grows.schedule turns c.in-Stopped.field-0 c.in-Stopped.ensures.runs in
    let are = views_at_first c.new-intakes.result c.new-intakes.ensures.none in
    let kept = kept_first rule f acts c.in-Ok.routes c.in_ok-hub.hub start c.new-watch.result c.in_ok-hub.ensures.config c.in_ok-hub.ensures.entries c.in_ok-hub.ensures.pairs c.in_ok-hub.ensures.partings c.in_ok-hub.ensures.tellings c.in_ok-hub.ensures.table c.in_ok-net.ensures c.new-watch.ensures in
    let there = there_at_first acts c.in_ok-hub.hub start (told_by c.new-watch.result) c.in_ok-net.ensures in
    has_run f acts hub net watch start c.in_ok-net.ensures c.requires c.is_whole.ensures.follows c.run-ran.ensures.grows.schedule turns c.in-Stopped.field-0 c.in-Stopped.ensures.runs rule
    c.run-ran.ensures.ready.settled (c.is_whole.ensures.watch c.if-not-is_whole.false) (c.is_whole.ensures.net c.if-not-is_whole.false) c.is_whole.ensures.few (c.run-ran.ensures.last (omega arith))
    (subst (λ (t : RouteTable). IsRight (bus_beginning rule f t) (server hub (net_state net) (told_by watch)) (tt {0})) c.in-Ok.ensures.routes (c.run-ran.ensures.right (tt {0}) f no_views few are kept))
    (subst (λ (t : RouteTable). IsSettled (bus_beginning rule f t) (server hub (net_state net) (told_by watch))) c.in-Ok.ensures.routes (c.run-ran.ensures.settled (omega arith) (tt {0}) f no_views few are kept there (between_first c.new-watch.result c.new-watch.ensures)))
    (subst (λ (t : RouteTable). IsLivedThroughout (bus_beginning rule f t) (server hub (net_state net) (told_by watch))) c.in-Ok.ensures.routes
    (c.run-ran.ensures.throughout (tt {0}) f no_views few are kept (lived_first (bus_beginning rule f c.in-Ok.routes) (server c.in_ok-hub.hub (net_state start) (told_by c.new-watch.result)) (ap told_by c.new-watch.ensures))))
    (let (later, viewed, last) = c.run-ran.ensures.kept (tt {0}) f no_views few are kept in
    subst (λ (t : RouteTable). IsKeptLast (bus_beginning rule f t) (server hub (net_state net) (told_by watch))) c.in-Ok.ensures.routes (later, last))
    c.is_whole.ensures.notes c.links_in_range.ensures
