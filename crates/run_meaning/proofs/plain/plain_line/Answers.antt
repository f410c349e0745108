use Rattle.run_meaning.proofs.All.{◌≡◌, List, [], map, drop, drop_of_length-le, refl, sym, ap, ◌∙◌, arith, Note, note_value, EchoLine, echo_lines, echo_start, line_value, world_view, lines_phase}
use Rattle.run_meaning.proofs.plain.plain_line.Goals as goal

-- the phase is the same for every text of the reply
pub returns-clause-phase : goal.returns-clause-phase
returns-clause-phase c replies =
    let conn = c.args.conn.0 in
    let over : drop c.walk.place c.args.notes.now ≡ [] = drop_of_length-le c.args.notes.now (omega arith) in
    ap (λ (ns : List Note). (echo_lines c.args.reply.now conn (line_value c.walk.line) (map note_value ns)).phase) (sym over)
    ∙ ap (λ (line : EchoLine). line.phase) c.walk.invariant
    ∙ lines_phase c.args.reply.now (replies conn) conn echo_start echo_start (map note_value c.args.notes.now) refl
    ∙ ap (λ (line : EchoLine). line.phase) (world_view replies (replies conn) conn (map note_value c.args.notes.now) refl)

pub returns-clause-items : goal.returns-clause-items
returns-clause-items c replies agree =
    let conn = c.args.conn.0 in
    let over : drop c.walk.place c.args.notes.now ≡ [] = drop_of_length-le c.args.notes.now (omega arith) in
    ap (λ (ns : List Note). (echo_lines c.args.reply.now conn (line_value c.walk.line) (map note_value ns)).items) (sym over)
    ∙ ap (λ (line : EchoLine). line.items) c.walk.invariant
    ∙ ap (λ (line : EchoLine). line.items) (world_view replies c.args.reply.now conn (map note_value c.args.notes.now) agree)
