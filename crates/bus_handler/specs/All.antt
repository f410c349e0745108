-- The words that proofs of this crate and of those above use, under one name.
pub use Rattle.bus_handler.specs.Bus.{bus_order, bus_route, bus_said, closed_by, code_in, commanded, echo_route, message_order, order_on, published, published_by, room_route, routes_of_bus, space_in}
