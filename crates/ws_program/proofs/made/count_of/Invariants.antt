use Rattle.ws_program.proofs.Below.{◌≡◌, ◌≤◌, take, number_of, is_counted}
use Rattle.ws_program.proofs.made.count_of.Given as goal

abbrev pub invariant-notes : goal.invariant-notes
invariant-notes l = record {
  so_far : l.count ≡ number_of (is_counted l.fn.counted) (take l.place l.fn.watch.notes);
  few : l.count ≤ l.place;
}
