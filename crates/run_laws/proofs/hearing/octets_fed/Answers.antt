use Rattle.run_laws.proofs.HearLemmas.{head_fed, frames_fed}
use Rattle.run_laws.proofs.hearing.octets_fed.Goals as goal

pub returns : goal.returns
returns c = record { head = head_fed; frames = λ table max last heard octets came. frames_fed table max last heard octets came }
