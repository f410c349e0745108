use Rattle.made_schedule.proofs.All.{rules, octets_of}
use Rattle.made_schedule.proofs.message.octets_of.Goals as goal

pub returns : goal.returns
unfolding octets_of
returns c = search rules
