use Rattle.std.proofs.Common.{◌∙◌, ap, []}
use Rattle.std.specs.Prelude.{codes}
use Rattle.route_table.specs.Table.{RouteTable, with_route, is_refused}
use Rattle.bus_handler.proofs.RouteLemmas.{echo_fits, room_fits, bus_fits}
use Rattle.bus_handler.proofs.bus.Bus.routes.Goals as goal

pub add-requires-clause-fits : goal.add-requires-clause-fits
add-requires-clause-fits c = ap (λ (t : RouteTable). is_refused t (codes "/echo")) c.new-routes.ensures ∙ echo_fits

pub add-requires-2-clause-fits : goal.add-requires-2-clause-fits
add-requires-2-clause-fits c =
    let one = c.in_ok-add.ensures.added ∙ ap (λ (t : RouteTable). with_route t (codes "/echo") []) c.new-routes.ensures in
    ap (λ (t : RouteTable). is_refused t (codes "/room/{name}")) one ∙ room_fits

pub add-requires-3-clause-fits : goal.add-requires-3-clause-fits
add-requires-3-clause-fits c =
    let one = c.in_ok-add.ensures.added ∙ ap (λ (t : RouteTable). with_route t (codes "/echo") []) c.new-routes.ensures in
    let two = c.in_ok-add-2.ensures.added ∙ ap (λ (t : RouteTable). with_route t (codes "/room/{name}") (codes "room.v1")) one in
    ap (λ (t : RouteTable). is_refused t (codes "/bus")) two ∙ bus_fits

pub returns-clause-routes : goal.returns-clause-routes
returns-clause-routes c =
    let one = c.in_ok-add.ensures.added ∙ ap (λ (t : RouteTable). with_route t (codes "/echo") []) c.new-routes.ensures in
    let two = c.in_ok-add-2.ensures.added ∙ ap (λ (t : RouteTable). with_route t (codes "/room/{name}") (codes "room.v1")) one in
    c.in_ok-add-3.ensures.added ∙ ap (λ (t : RouteTable). with_route t (codes "/bus") (codes "bus.v1")) two
