use Rattle.ws_program.proofs.All.{sym, note_value, note_line, text_grows, text_fails}
use Rattle.ws_program.proofs.report.report_notes.Goals as goal

pub returns-then-not-report_note : goal.returns-then-not-report_note
returns-then-not-report_note g c =
    text_fails note_line c.args.watch.now.notes c.notes.place (note_value c.at.result) _ _ _ _ _ _ (sym c.at.ensures) c.notes.invariant.so_far
    c.if-not-report_note.ensures

pub notes-preserved : goal.notes-preserved
notes-preserved g c = record {
  so_far = text_grows note_line c.args.watch.now.notes c.notes.place (note_value c.at.result) _ _ _ _ _ _ (sym c.at.ensures) c.notes.invariant.so_far
      c.if-not-report_note.ensures;
}
