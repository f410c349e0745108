use Rattle.utf8_stream.proofs.All.{sym, subst, IsUnfinished, IsUnfinished-nil}
use Rattle.utf8_stream.proofs.stream.Utf8.new.Goals as goal

pub invariant_of-result : goal.invariant_of-result
invariant_of-result c = subst IsUnfinished (sym c.new.ensures) IsUnfinished-nil
