-- A hub beside what its notes say.
use Rattle.std.specs.Prelude.{◌≡◌, ◌≢◌, ◌<◌, ◌≤◌, ◌-◌, ◌^◌, ℕ, List, [], ◌∷◌, Option, Some, None, Bool, true, false, length, ⊤}
use Rattle.ws_kinds.specs.declared.note.Phase.{Phase}
use Rattle.ws_kinds.specs.declared.note.Phase.TheVariants.{Head, Open}
use Rattle.ws_kinds.specs.NoteValue.{NoteValue}
use Rattle.run_meaning.specs.Counts.{closes}
use Rattle.run_meaning.specs.Lines.{Line, World, is_gone_phase}
use Rattle.hub_lines.specs.State.{Server, is_present}
use Rattle.hub_lines.specs.Told.{took_sum}
use Rattle.hub_lines.specs.Lines.{FairFor, StandsFor}
use Rattle.run_meaning.specs.Orders.{unless_gone}
use Rattle.run_meaning.specs.Bridge.{TopicsEnd}
use Rattle.hub_notes.specs.Progress.{Progress, progress_at}
use Rattle.hub_lines.specs.Fronts.{DropsFairly, TakesFront}
use Rattle.hub_notes.specs.Fronts.{items_at}

-- the code and the reason with which a connection left Open, as long as the handler was not told of it
abbrev pub untold : Option (ℕ × List ℕ) → List (ℕ × List ℕ) → Option (ℕ × List ℕ)
untold left_open [] = left_open
untold left_open (first ∷ rest) = None

-- how far a connection is by its line, and by what the handler was told of its end
abbrev pub line_progress : Line → List (ℕ × List ℕ) → Progress
line_progress line told = record { phase = unless_gone line.phase; topics = line.topics; due = untold line.left_open told }

-- the connection has not left Open yet
abbrev pub is_early : Option Phase → Bool
is_early (Some Head) = true
is_early (Some Open) = true
is_early _ = false

-- the handler was told once with which code and reason the connection left Open, or not yet
abbrev pub IsToldOnce : Option (ℕ × List ℕ) → List (ℕ × List ℕ) → Type 0
IsToldOnce left_open [] = ⊤
IsToldOnce left_open (first ∷ []) = left_open ≡ Some first
IsToldOnce left_open (first ∷ second ∷ rest) = ⊥

-- a connection of a hub is as its line says
pub record AgreesAt (conn : ℕ) (line : Line) (notes : List NoteValue) (s : Server) : Type 0 where
  pub progress : progress_at s.hub conn ≡ line_progress line (closes conn notes)
  pub early : is_early line.phase ≡ true → line.left_open ≡ None
  pub once : IsToldOnce line.left_open (closes conn notes)
  -- only one that is open has topics
  pub topics : TopicsEnd line
  -- who is known was accepted
  pub known : line.phase ≢ None → conn ≤ s.hub.named
  -- the line's items stand for it, and are counted as long as the count is below its end
  pub stands : is_present s.hub conn ≡ true → StandsFor conn s line.items
  pub count : is_present s.hub conn ≡ true → length line.items < 2 ^ 64 - 1 → items_at s.hub conn ≡ length line.items
  -- of one that is gone, the link took a front of them
  pub front : is_gone_phase line.phase ≡ true → length line.items < 2 ^ 64 - 1 → TakesFront conn line.items s.net s.told
  -- what was dropped of it was dropped fairly, also once it is gone
  pub fair : is_present s.hub conn ≡ true → FairFor conn s line.items
  pub drops : is_gone_phase line.phase ≡ true → length line.items < 2 ^ 64 - 1 → DropsFairly conn s.hub.config.limit line.items s.net s.told

-- net and watch tell, and each connection is as this world says after these notes
pub record Agrees {State : Type 0} (world : World State) (notes : List NoteValue) (s : Server) : Type 0 where
  pub tells : s.net.tells ≡ true
  pub told : s.told ≡ Some notes
  pub lines : (conn : ℕ) → AgreesAt conn (world.line conn) notes s
  -- the notes tell of no more octets of a connection than its link took
  pub took : (conn : ℕ) → took_sum conn notes ≤ length (s.net.taken conn)
