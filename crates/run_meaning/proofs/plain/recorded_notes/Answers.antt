use Rattle.run_meaning.proofs.All.{◌≡◌, ◌+◌, ℕ, suc, List, [], ◌∷◌, ◌++◌, Some, map, take, slice_get, sym, ap, ◌∙◌, arith, map-append, Note, NoteValue, note_value, take_one}
use Rattle.run_meaning.proofs.plain.recorded_notes.Goals as goal

one_more : (place : ℕ) (kept all : List NoteValue) (next : NoteValue) → kept ≡ take place all → Some next ≡ slice_get all place → kept ++ next ∷ [] ≡ take (place + 1) all
one_more place kept all next same is =
    let step : suc place ≡ place + 1 = omega arith in
    ap (λ (ns : List NoteValue). ns ++ next ∷ []) same ∙ sym (take_one place all next (sym is)) ∙ ap (λ k. take k all) step

pub walk-preserved : goal.walk-preserved
walk-preserved c =
    ap (λ (ns : List Note). map note_value ns) c.in_ok-push.ensures.items
    ∙ map-append note_value c.walk.notes.items (c.at.result ∷ [])
    ∙ one_more c.walk.place (map note_value c.walk.notes.items) c.args.recorder.now.notes (note_value c.at.result) c.walk.invariant c.at.ensures
