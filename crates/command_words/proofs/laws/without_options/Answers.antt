use Rattle.std.proofs.Common.{refl}
use Rattle.command_words.specs.Meaning.{options_from}
use Rattle.command_words.proofs.laws.without_options.Goals as goal

pub returns : goal.returns
unfolding options_from
returns c = record { echo = refl; replay = refl; serve = λ value port e. rw e refl; without_port = refl }
