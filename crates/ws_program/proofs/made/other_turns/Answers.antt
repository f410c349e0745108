use Rattle.ws_program.proofs.All.{◌≡◌, ◌≤◌, ◌+◌, refl, subst, arith, count_by, net_state, start_net, told_by, server, RouteTable, IsKeptLast, IsLivedThroughout, IsRight, IsSettled, bus_beginning, failed_then, few_passed, first_of, has_run, is_turn_act, never_failed, never_spent, spent_then, stopped_then}
use Rattle.ws_kinds.specs.ConfigValue.{usual_config}
use Rattle.topic_guard.specs.Admits.{admits}
use Rattle.ws_program.specs.Begun.{seen}
use Rattle.ws_program.proofs.made.other_turns.Goals as goal

pub unreachable-requires : goal.unreachable-requires
unreachable-requires g c =
    let acts = c.args.out.net.acts in
    let net = c.run-ran.new.out.net in
    let all : c.args.turns ≡ count_by is_turn_act acts = c.requires.turns in
    never_spent usual_config acts c.run-ran.new.hub net c.run-ran.new.out.watch (start_net acts) refl c.requires.begun.can.0 c.is_whole.ensures.follows c.run-ran.ensures.grows.schedule (c.args.turns + 1) (omega (arith, all))
    (spent_then c.args.turns (net_state (start_net acts)) (net_state c.args.out.net) (net_state net) c.requires.begun.passes c.in-Spent.ensures.runs)

pub unreachable-requires-in-NetFault : goal.unreachable-requires-in-NetFault
unreachable-requires-in-NetFault g c =
    let acts = c.args.out.net.acts in
    let net = c.run-ran.new.out.net in
    never_failed usual_config acts c.run-ran.new.hub net c.run-ran.new.out.watch (start_net acts) refl c.requires.begun.can.0 c.is_whole.ensures.follows c.run-ran.ensures.grows.schedule (c.args.turns + 1)
    (failed_then c.args.turns (net_state (start_net acts)) (net_state c.args.out.net) (net_state net) c.requires.begun.passes c.in-NetFault.ensures.runs)

pub returns : goal.returns
returns g c =
    let rule = admits c.args.guard.now.rule in
    let f = usual_config in
    let begun = c.requires.begun in
    let behind = begun.behind in
    let acts = c.args.out.net.acts in
    let start = start_net acts in
    let hub = c.run-ran.new.hub in
    let net = c.run-ran.new.out.net in
    let watch = c.run-ran.new.out.watch in
    let ran = c.run-ran.ensures in
    let all : c.args.turns ≡ count_by is_turn_act acts = c.requires.turns in
    let some : 1 ≤ count_by is_turn_act acts = begun.can.1 in
    let most : 1 ≤ c.args.turns = omega (arith, all, some) in
    let count = c.in-Stopped.field-0 + 1 in
    let turns = c.args.turns + 1 in
    let runs = stopped_then c.args.turns (net_state start) (net_state c.args.out.net) (net_state net) begun.passes c.in-Stopped.field-0 c.in-Stopped.ensures.runs in
    let few = few_passed f acts hub net watch start refl begun.can.0 c.is_whole.ensures.follows ran.grows.schedule turns count runs in
    let whole = c.is_whole.ensures.watch c.if-not-is_whole.false in
    let (later, viewed, last) = ran.kept (tt {0}) f behind.views few behind.are behind.kept in
    record {
      run = has_run f acts hub net watch start refl begun.can.0 c.is_whole.ensures.follows ran.grows.schedule turns count runs rule
          ran.ready.settled whole (c.is_whole.ensures.net c.if-not-is_whole.false) c.is_whole.ensures.few (ran.last most)
          (subst (λ (t : RouteTable). IsRight (bus_beginning rule f t) (server hub (net_state net) (told_by watch)) (tt {0})) begun.of_bus (ran.right (tt {0}) f behind.views few behind.are behind.kept))
          (subst (λ (t : RouteTable). IsSettled (bus_beginning rule f t) (server hub (net_state net) (told_by watch))) begun.of_bus (ran.settled most (tt {0}) f behind.views few behind.are behind.kept behind.there behind.between))
          (subst (λ (t : RouteTable). IsLivedThroughout (bus_beginning rule f t) (server hub (net_state net) (told_by watch))) begun.of_bus (ran.throughout (tt {0}) f behind.views few behind.are behind.kept behind.throughout))
          (subst (λ (t : RouteTable). IsKeptLast (bus_beginning rule f t) (server hub (net_state net) (told_by watch))) begun.of_bus (later, last))
          c.is_whole.ensures.notes c.links_in_range.ensures;
      first = λ seed made. first_of rule (seen c.args.server c.args.out) begun hub net watch whole ran.grows seed made;
    }
