use Rattle.run_meaning.proofs.Below.{◌≡◌, map, take, note_value}
use Rattle.run_meaning.proofs.plain.recorded_notes.Given as goal

abbrev pub invariant-walk : goal.invariant-walk
invariant-walk l = map note_value l.notes.items ≡ take l.place l.recorder.notes
