use Rattle.run_meaning.proofs.Below.{◌≡◌, map, drop, note_value, window, is_refused}
use Rattle.run_meaning.proofs.plain.is_refused.Given as goal

abbrev pub invariant-walk : goal.invariant-walk
invariant-walk l = is_refused (window (map note_value (drop l.note-index l.notes))) l.conn.0 l.order ≡ is_refused (window (map note_value l.notes)) l.conn.0 l.order
