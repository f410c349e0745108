-- A server before its first turn.
use Rattle.std.specs.Prelude.{◌≡◌, ℕ, [], None}
use Rattle.route_table.specs.Table.{RouteTable}
use Rattle.bus_handler.specs.Bus.{routes_of_bus}
use Rattle.hub_lines.specs.State.{HubState}
use Rattle.hub_lines.specs.Calls.{Settled}
use Rattle.hub_notes.specs.Table.{IsTable, table_of}
use Rattle.loop_runner.specs.declared.intakes.Intakes.{Intakes}
use Rattle.loop_runner.specs.Intakes.{intake_at, max_of}

-- it has no connection, and the routes of the built-in handler
pub record IsNewServer (hub : HubState) (intakes : Intakes) (routes : RouteTable) : Type 0 where
  pub named : hub.named ≡ 0
  pub entries : hub.entries ≡ []
  pub pairs : hub.pairs ≡ []
  pub partings : hub.partings ≡ []
  pub tellings : hub.tellings ≡ []
  pub settled : Settled hub
  pub table : IsTable (table_of hub)
  pub max : max_of intakes ≡ hub.config.max_message
  pub none : (conn : ℕ) → intake_at intakes conn ≡ None
  pub of_bus : routes ≡ routes_of_bus
