-- A message for each subscriber of a topic but its sender.
use Rattle.std.specs.Prelude.{◌≡◌, ℕ, suc, zero, List, [], Bool, true, false, Option, Result, Ok, OnErr, IfOk, is_ok, if◌then◌else◌}
use Rattle.std.specs.Option.{option_map}
use Rattle.ws_kinds.specs.declared.conn.Conn.{Conn}
use Rattle.ws_kinds.specs.declared.kind.Kind.{Kind}
use Rattle.ws_kinds.specs.declared.note.Why.{Why}
use Rattle.wire_meaning.specs.Answer.{Item}
use Rattle.run_meaning.specs.Orders.{why_publish}
use Rattle.hub_lines.specs.State.{HubState, Server}
use Rattle.hub_lines.specs.Calls.{Ties, only, receives, published, served}
use Rattle.hub_notes.specs.Calls.{Proceeds, Appends}
use Rattle.hub_notes.specs.Table.{IsTable, table_of}
use Rattle.hub_core.specs.Answers.{reason_of}
use Rattle.hub_core.specs.Sends.{Sends}

-- the number of a connection, if there is one
abbrev pub number_in : Option Conn → Option ℕ
number_in conn = option_map (λ it. it.0) conn

-- how many numbers below this one pass a test
abbrev pub count_below : (ℕ → Bool) → ℕ → ℕ
count_below passes zero = 0
count_below passes (suc number) = if passes number then suc (count_below passes number) else count_below passes number

-- how many connections get a message: among the numbers up to the greatest that was accepted
abbrev pub receivers : HubState → Option ℕ → List ℕ → ℕ
receivers hub sender topic = count_below (receives hub.pairs sender topic) (suc hub.named)

-- The message is put for each who subscribed as this began.
pub record Publishes (sender : Option ℕ) (topic : List ℕ) (kind : Kind) (body : List ℕ) (old new : Server) : Type 0 where
  pub ties : Ties new
  pub proceeds : Proceeds [] [] old new
  pub appends : Appends (published old.hub.pairs sender topic kind body) old new
  pub named : new.hub.named ≡ old.hub.named
  pub table : IsTable (table_of new.hub)

-- the item is put for a connection, unless it is the sender
abbrev pub PutsUnless : Bool → ℕ → Item → Server → Server → Type 0
PutsUnless true conn item old new = new ≡ old
PutsUnless false conn item old new = Sends conn [] (only conn item) old new

-- A message is published, or it is refused for its reason and nothing changes. The answer tells how many get it; where nobody
-- does, nothing changes either.
pub record PublishesMessage (sender : Option ℕ) (topic : List ℕ) (kind : Kind) (body : List ℕ) (answer : Result ℕ Why) (old new : Server) : Type 0 where
  pub ties : Ties new
  pub reason : reason_of answer ≡ why_publish old.hub.config topic kind body
  pub refused : OnErr answer (new ≡ old)
  pub receivers : IfOk answer (λ count. count ≡ receivers old.hub sender topic)
  pub nobody : answer ≡ Ok 0 → new ≡ old
  pub proceeds : Proceeds [] [] old new
  pub appends : Appends (served (is_ok answer) (published old.hub.pairs sender topic kind body)) old new
  pub named : new.hub.named ≡ old.hub.named
  pub table : IsTable (table_of new.hub)
