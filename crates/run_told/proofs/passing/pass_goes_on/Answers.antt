use Rattle.run_told.proofs.PassLemmas.{pass_ends, pass_lasts, pass_more, pass_next, pass_starts}
use Rattle.run_told.proofs.passing.pass_goes_on.Goals as goal

pub returns : goal.returns
returns c = record { starts = pass_starts; next = pass_next; more = pass_more; ends = pass_ends; lasts = pass_lasts }
