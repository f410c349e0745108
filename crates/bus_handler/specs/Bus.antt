-- What the built-in handler orders, and its routes.
use Rattle.std.specs.Prelude.{ℕ, List, [], ◌∷◌, ◌+◌, ◌&&◌, Option, Some, None, nat_eq, take, drop, length, codes, if◌then◌else◌}
use Rattle.std.specs.Char.{is_ascii_digit}
use Rattle.std.specs.List.{list_all, position}
use Rattle.std.specs.Option.{option_map, option_to_list, unwrap_or}
use Rattle.std.specs.Str.Parse.{digits_value}
use Rattle.ws_kinds.specs.declared.kind.Kind.{Kind}
use Rattle.ws_kinds.specs.EventValue.{EventValue, WhatValue, opened, message, told, closed}
use Rattle.ws_kinds.specs.OrderValue.{OrderValue, send, subscribe, unsubscribe, publish, close}
use Rattle.route_table.specs.Table.{RouteTable, no_routes, with_route}

-- ---- the routes, by their numbers

abbrev pub echo_route : ℕ
echo_route = 0

abbrev pub room_route : ℕ
room_route = 1

abbrev pub bus_route : ℕ
bus_route = 2

-- the routes: `/echo`, `/room/{name}` with the subprotocol `room.v1`, and `/bus` with `bus.v1`
abbrev pub routes_of_bus : RouteTable
routes_of_bus = with_route (with_route (with_route no_routes (codes "/echo") []) (codes "/room/{name}") (codes "room.v1")) (codes "/bus") (codes "bus.v1")

-- the place of the first space
abbrev pub space_in : List ℕ → Option ℕ
space_in octets = position (λ octet. nat_eq octet 32) octets

-- what stands before a place is the topic, and what stands behind it is published to the topic
abbrev pub published_by : Kind → List ℕ → Option ℕ → Option OrderValue
published_by kind octets None = None
published_by kind octets (Some place) = Some (publish (take place octets) kind (drop (place + 1) octets))

-- a topic, a space, and what is published to the topic; without a space it is nothing
abbrev pub published : Kind → List ℕ → Option OrderValue
published kind octets = published_by kind octets (space_in octets)

-- the code that four decimal digits say; other octets say none
abbrev pub code_in : List ℕ → Option ℕ
code_in octets = if nat_eq (length octets) 4 && list_all is_ascii_digit octets then Some (digits_value 10 octets) else None

-- four decimal digits close the connection, with their code and no reason; other octets are nothing
abbrev pub closed_by : List ℕ → Option OrderValue
closed_by octets = option_map (λ code. close code []) (code_in octets)

-- what a message of `/bus` orders by its first octet: `+` to subscribe to the topic that follows, `-` to end that, `=` to
-- publish, and `x` to close
abbrev pub commanded : Kind → List ℕ → Option OrderValue
commanded kind [] = None
commanded kind (first ∷ rest) =
    if nat_eq first 43 then Some (subscribe rest) else if nat_eq first 45 then Some (unsubscribe rest) else if nat_eq first 61 then published kind rest
    else if nat_eq first 120 then closed_by rest else None

-- what a message orders: on `/echo` it is sent back, in a room it is published to all others there, and on `/bus` it is a
-- command, or is sent back
abbrev pub message_order : ℕ → ℕ → List ℕ → Kind → List ℕ → Option OrderValue
message_order route conn param kind body =
    if nat_eq route echo_route then Some (send conn kind body)
    else if nat_eq route room_route then Some (publish param kind body)
    else if nat_eq route bus_route then Some (unwrap_or (commanded kind body) (send conn kind body)) else None

-- the order that answers an event, if one does: who opens a room subscribes to it, and messages order what they say
abbrev pub order_on : ℕ → ℕ → List ℕ → WhatValue → Option OrderValue
order_on route conn param opened = if nat_eq route room_route then Some (subscribe param) else None
order_on route conn param (message kind body) = message_order route conn param kind body
order_on route conn param (told dropped drained) = None
order_on route conn param (closed code reason) = None

abbrev pub bus_order : EventValue → Option OrderValue
bus_order event = order_on event.route event.conn event.param event.what

-- the orders that answer an event: that one, or none
abbrev pub bus_said : EventValue → List OrderValue
bus_said event = option_to_list (bus_order event)
