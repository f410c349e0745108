use Rattle.run_laws.proofs.HearLemmas.{step_is_read, frames_read, hears_more, hears_same, frames_end}
use Rattle.run_laws.proofs.hearing.event_read.Goals as goal

pub returns : goal.returns
returns c = record {
  stepped = step_is_read;
  read = λ table max last heard octets events. frames_read table max last heard octets events;
  heard = hears_more;
  passed = hears_same;
  all = λ table max last heard octets. frames_end table max last heard octets;
}
