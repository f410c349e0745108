use Rattle.run_laws.proofs.Replying.{admitted_longer, replies_before, reply_of_opened}
use Rattle.run_laws.proofs.hearing.replies.Goals as goal

pub returns : goal.returns
returns c = record { before = λ table. replies_before table; admitted = λ table. admitted_longer table; opened = λ table. reply_of_opened table }
