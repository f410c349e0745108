use Rattle.run_laws.proofs.HearLemmas.{front_of_frames, front_of_head, front_of_all}
use Rattle.run_laws.proofs.hearing.gone.Goals as goal

pub returns : goal.returns
returns c = record { frames = λ table max last heard octets. front_of_frames table max last heard octets; head = front_of_head; all = λ table max last heard octets. front_of_all table max last heard octets }
