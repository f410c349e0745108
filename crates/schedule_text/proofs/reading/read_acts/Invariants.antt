use Rattle.schedule_text.proofs.Below.{◌≡◌, ◌++◌, ℕ, ◌≤◌, List, length, header, IsAt}
use Rattle.schedule_text.proofs.reading.read_acts.Given as goal

abbrev pub invariant-lines : goal.invariant-lines
invariant-lines l = (octets : List ℕ) → length octets ≤ 1048576 → octets ≡ header ++ l.fn.lines → IsAt octets l.reader

abbrev pub decreases-lines : goal.decreases-lines
decreases-lines l = length l.reader.cursor.rest.now
