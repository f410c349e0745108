-- What the notes of a run are read with.
use Rattle.std.specs.Prelude.{ℕ, List, Bool, true}
use Rattle.ws_kinds.specs.EventValue.{EventValue}
use Rattle.ws_kinds.specs.OrderValue.{OrderValue}

-- the meaning of a handler, and the texts of the replies
pub record Server (State : Type 0) : Type 0 where
  -- the handler's state before the first event
  pub start : State
  -- its state after an event
  pub after : State → EventValue → State
  -- the orders that answer an event, by the state after it
  pub said : State → EventValue → List OrderValue
  -- the topics that may be subscribed to
  pub admits : List ℕ → Bool
  -- for each connection that is admitted, the text that answers its request head
  pub reply : ℕ → List ℕ

-- a handler with this start and these meanings, this rule of topics, and these texts of replies
abbrev pub served_by : {State : Type 0} → State → (State → EventValue → State) → (State → EventValue → List OrderValue) → (List ℕ → Bool) → (ℕ → List ℕ) → Server State
served_by start after said admits replies = record { start = start; after = after; said = said; admits = admits; reply = replies }

-- the rule by which every topic may be subscribed to
abbrev pub every_topic : List ℕ → Bool
every_topic _ = true
