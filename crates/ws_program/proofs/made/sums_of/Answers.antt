use Rattle.ws_program.proofs.All.{rules, ◌≡◌, ◌∙◌, [], ◌∷◌, ap, sym, note_value, net_state, accepted_by, sums_more, sums_still}
use Rattle.ws_program.proofs.Below.{count_at, with_link}
use Rattle.ws_program.proofs.made.sums_of.Goals as goal
use Rattle.ws_program.proofs.made.sums_of.Goals.{in-Some+in_ok-sums, in_default}

pub notes-preserved : goal.notes-preserved
notes-preserved c =
    let items = count_at c.args.hub.now in
    let taken = (net_state c.args.net.now).taken in
    elim c.match-accepted_by.branch [
      | in-Some+in_ok-sums w ↦
          let conn = w.in-Some.conn.0 in
          let one : accepted_by (note_value c.at.result) ≡ conn ∷ [] = search rules in
          let step : c.match-accepted_by.sums ≡ with_link (items conn) (taken conn) c.notes.sums = search rules in
          step ∙ ap (with_link (items conn) (taken conn)) c.notes.invariant ∙ sym (sums_more items taken c.args.watch.now.notes c.notes.place conn (note_value c.at.result) (sym c.at.ensures) one)
      | in_default w ↦
          let none : accepted_by (note_value c.at.result) ≡ [] = search rules in
          w.sums-is ∙ c.notes.invariant ∙ sym (sums_still items taken c.args.watch.now.notes c.notes.place (note_value c.at.result) (sym c.at.ensures) none)
    ]
