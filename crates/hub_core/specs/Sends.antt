-- What a call does for one connection: what it notes of it, and what it puts for it.
use Rattle.std.specs.Prelude.{◌≡◌, ℕ, List, [], ◌∷◌, Result, OnErr, IfOk, is_ok}
use Rattle.ws_kinds.specs.declared.kind.Kind.{Kind}
use Rattle.ws_kinds.specs.declared.note.Left.TheVariants.{LinkFailed}
use Rattle.ws_kinds.specs.declared.note.Why.{Why}
use Rattle.ws_kinds.specs.NoteValue as note
use Rattle.ws_kinds.specs.NoteValue.{NoteValue}
use Rattle.wire_meaning.specs.declared.frame.Opcode.TheVariants.{Begins}
use Rattle.wire_meaning.specs.Answer.{Item as Sent, whole}
use Rattle.run_meaning.specs.Orders.{why_send}
use Rattle.hub_lines.specs.State.{Server, phase_at}
use Rattle.hub_lines.specs.Calls.{Ties, SameElsewhere, SameLinesElsewhere, nothing, only, served}
use Rattle.hub_notes.specs.Quiet.{CountsBy}
use Rattle.hub_notes.specs.NetAfter.{FailsAfter}
use Rattle.hub_notes.specs.Calls.{Advances, Proceeds, Appends}
use Rattle.hub_notes.specs.Answers.{Makes}
use Rattle.hub_notes.specs.Table.{IsTable, table_of}
use Rattle.socket_core.specs.declared.socket.Kept.{Kept}
use Rattle.hub_core.specs.Answers.{TellsPut, reason_of}

-- These notes are made and nothing is appended, and what is held of the other connections is as it was.
pub record Notes (conn : ℕ) (first : List NoteValue) (old new : Server) : Type 0 where
  pub ties : Ties new
  pub makes : Makes first old new
  pub appends : Appends nothing old new
  pub elsewhere : SameElsewhere conn old.hub new.hub
  pub named : new.hub.named ≡ old.hub.named
  pub table : IsTable (table_of new.hub)

-- So many octets were read of a connection. Then it is quiet since now.
pub record GivesOctets (conn count : ℕ) (old new : Server) : Type 0 where
  pub ties : Ties new
  pub makes : Makes (note.given conn count ∷ []) old new
  pub counts : CountsBy (note.given conn count) old.hub new.hub
  pub appends : Appends nothing old new
  pub elsewhere : SameElsewhere conn old.hub new.hub
  pub named : new.hub.named ≡ old.hub.named
  pub table : IsTable (table_of new.hub)

-- A connection is gone since a read of it failed: no write failed.
pub record LosesLink (conn : ℕ) (old new : Server) : Type 0 where
  pub ties : Ties new
  pub advances : Advances (note.gone conn LinkFailed ∷ []) old new
  pub fails : FailsAfter [] old.net new.net
  pub appends : Appends nothing old new
  pub elsewhere : SameElsewhere conn old.hub new.hub
  pub named : new.hub.named ≡ old.hub.named
  pub table : IsTable (table_of new.hub)

-- These notes are made, and then these items are put.
pub record Sends (conn : ℕ) (first : List NoteValue) (items : ℕ → List Sent) (old new : Server) : Type 0 where
  pub ties : Ties new
  pub proceeds : Proceeds first [] old new
  pub appends : Appends items old new
  pub elsewhere : SameLinesElsewhere conn old new
  pub named : new.hub.named ≡ old.hub.named
  pub table : IsTable (table_of new.hub)

-- A message is sent as one frame, or it is refused for its reason and nothing changes.
pub record SendsMessage (to : ℕ) (kind : Kind) (body : List ℕ) (answer : Result Kept Why) (old new : Server) : Type 0 where
  pub ties : Ties new
  pub reason : reason_of answer ≡ why_send old.hub.config (phase_at old.hub to) kind body
  pub refused : OnErr answer (new ≡ old)
  pub kept : IfOk answer (λ kept. TellsPut kept to new.hub)
  pub proceeds : Proceeds [] [] old new
  pub appends : Appends (served (is_ok answer) (only to (whole (Begins kind) body))) old new
  pub elsewhere : SameLinesElsewhere to old new
  pub named : new.hub.named ≡ old.hub.named
  pub config : new.hub.config ≡ old.hub.config
  pub table : IsTable (table_of new.hub)
