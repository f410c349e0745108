use Rattle.hub_ticks.proofs.OneLemmas.{ticks_start}
use Rattle.hub_ticks.proofs.WalkLemmas.{ticks_on, ticks_end}
use Rattle.hub_ticks.proofs.walking.ticks_go_on.Goals as goal

pub returns : goal.returns
returns c = record {
  starts = ticks_start;
  next = ticks_on;
  ends = ticks_end;
}
