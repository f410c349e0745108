-- The patterns of the routes are read, and none conflicts with another.
use Rattle.std.proofs.Common.{◌≡◌, [], false, refl}
use Rattle.std.specs.Prelude.{codes}
use Rattle.matchit.specs.Route.{scan}
use Rattle.route_table.specs.Table.{no_routes, with_route, is_refused}

pub echo_fits : is_refused no_routes (codes "/echo") ≡ false
unfolding scan
echo_fits = refl

pub room_fits : is_refused (with_route no_routes (codes "/echo") []) (codes "/room/{name}") ≡ false
unfolding scan
room_fits = refl

pub bus_fits : is_refused (with_route (with_route no_routes (codes "/echo") []) (codes "/room/{name}") (codes "room.v1")) (codes "/bus") ≡ false
unfolding scan
bus_fits = refl
