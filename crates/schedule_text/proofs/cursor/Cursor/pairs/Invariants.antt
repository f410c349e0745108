use Rattle.schedule_text.proofs.Below.{◌≡◌, ◌++◌, length, pairs_at}
use Rattle.schedule_text.proofs.cursor.Cursor.pairs.Given as goal

abbrev pub invariant-pairs : goal.invariant-pairs
invariant-pairs l = pairs_at l.fn.self.rest.now ≡ (l.octets.items ++ (pairs_at l.self.rest.now).0, (pairs_at l.self.rest.now).1)

abbrev pub decreases-pairs : goal.decreases-pairs
decreases-pairs l = length l.self.rest.now
