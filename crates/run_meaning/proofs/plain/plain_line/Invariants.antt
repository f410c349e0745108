use Rattle.run_meaning.proofs.Below.{◌≡◌, map, drop, note_value, echo_lines, echo_start, line_value}
use Rattle.run_meaning.proofs.plain.plain_line.Given as goal

abbrev pub invariant-walk : goal.invariant-walk
invariant-walk l = echo_lines l.reply l.conn.0 (line_value l.line) (map note_value (drop l.place l.notes)) ≡ echo_lines l.reply l.conn.0 echo_start (map note_value l.notes)
