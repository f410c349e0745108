use Rattle.run_meaning.proofs.Replies.{texts_exist}
use Rattle.run_meaning.proofs.run_laws.replies_exist.Goals as goal

pub returns : goal.returns
returns c = λ table ns octets all. texts_exist table ns octets all
