-- What is given to the handler, and what is kept after it.
use Rattle.std.specs.Prelude.{◌≡◌, ℕ, List, ◌∷◌, ◌++◌, true}
use Rattle.std.specs.List.{list_all}
use Rattle.ws_kinds.specs.ConfigValue.{ConfigValue}
use Rattle.ws_kinds.specs.NoteValue.{NoteValue}
use Rattle.ws_kinds.specs.EventValue.{EventValue, WhatValue}
use Rattle.run_meaning.specs.Server as run
use Rattle.run_meaning.specs.Lines.{world}
use Rattle.run_meaning.specs.Orders.{Ordered}
use Rattle.hub_lines.specs.State.{Server}
use Rattle.run_meaning.specs.Steps.{Step, notes_of}
use Rattle.hub_notes.specs.Calls.{Does}
use Rattle.run_laws.specs.Agrees.{Agrees}
use Rattle.run_laws.specs.Tests.{is_of_orders}
use Rattle.run_kept.specs.Kept.{IntakeView}

-- an event of a connection, with the route and the parameter of its intake
abbrev pub event_for : ℕ → IntakeView → WhatValue → EventValue
event_for conn intake what = record { conn = conn; route = intake.route; param = intake.param; what = what }

-- The handler was given the event of a note, and its orders were served, between these servers. Since the event's note, and
-- before the first order, notes of what was sent came.
pub record OrdersServed {State : Type 0} (meaning : run.Server State) (config : ConfigValue) (notes : List NoteValue) (this : NoteValue) (sending after : List NoteValue) (old new : Server)
    (now : State) : Type 0 where
  -- what the orders did
  pub steps : List Step
  pub all : after ≡ notes ++ this ∷ (sending ++ notes_of steps)
  pub within : list_all is_of_orders (sending ++ notes_of steps) ≡ true
  pub does : (texts : ℕ → List ℕ) → Does texts steps old new
  pub configured : new.hub.config ≡ old.hub.config
  -- the hub, the orders and the handler's state are as all notes say
  pub agrees : Agrees (world meaning after) after new
  pub ordered : Ordered meaning config after
  pub state : now ≡ (world meaning after).state
