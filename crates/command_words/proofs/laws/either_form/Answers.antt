use Rattle.command_words.proofs.Order.{either_form}
use Rattle.command_words.proofs.laws.either_form.Goals as goal

pub returns : goal.returns
returns c = either_form
