-- The built-in handler, as the notes of a run are read with it.
use Rattle.std.specs.Prelude.{ℕ, List, Bool}
use Rattle.bus_handler.specs.Bus.{bus_said}
use Rattle.run_meaning.specs.Server.{Server}
use Rattle.route_table.specs.Table.{RouteTable}
use Rattle.ws_kinds.specs.ConfigValue.{ConfigValue}
use Rattle.loop_runner.specs.Keeps.{Beginning}

-- the built-in handler, which has no state, where the topics may be subscribed to of which `admits` holds, with these texts of replies
abbrev pub bus_server : (List ℕ → Bool) → (ℕ → List ℕ) → Server (Unit {0})
bus_server admits replies = record { start = tt; after = λ state _. state; said = λ _ event. bus_said event; admits = admits; reply = replies }

-- what a run with it begins with
abbrev pub bus_beginning : (List ℕ → Bool) → ConfigValue → RouteTable → Beginning (Unit {0})
bus_beginning admits config table = record { start = tt; after = λ state _. state; said = λ _ event. bus_said event; admits = admits; config = config; table = table }
