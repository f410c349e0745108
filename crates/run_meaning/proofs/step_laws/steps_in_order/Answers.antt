use Rattle.run_meaning.proofs.All.{notes_of-append, standing-append, items-append}
use Rattle.run_meaning.proofs.step_laws.steps_in_order.Goals as goal

pub returns : goal.returns
returns c = record {
  notes = notes_of-append;
  standing = standing-append;
  items = items-append;
}
