-- What a close frame tells.
use Rattle.std.specs.Prelude.{◌≡◌, ℕ, ◌-◌, ◌≤◌, List, length, drop}
use Rattle.wire_meaning.specs.Event.{closed, failed, closing}
use Rattle.frame_reader.specs.declared.reader.EventSpan.{EventSpan}
use Rattle.frame_reader.specs.declared.reader.EventSpan.TheVariants as span

-- what the payload of a close frame says
abbrev pub CloseIs : EventSpan → List ℕ → Type 0
CloseIs (span.Close code size) payload = (size ≤ length payload) × (closing payload ≡ closed code (drop (length payload - size) payload))
CloseIs (span.Failed code) payload = closing payload ≡ failed code
CloseIs other payload = ⊥
