use Rattle.ws_program.proofs.Below.{◌≡◌, ◌≤◌, ◌-◌, length, Consumes, TellsAlike}
use Rattle.ws_program.proofs.replay.read_all.Given as goal

abbrev pub invariant-reads : goal.invariant-reads
invariant-reads g l = record {
  came : Consumes (g.S.Source.left l.fn.source) (g.S.Source.left l.source) l.octets.items;
  most : length l.octets.items ≤ 1048577;
  length : length l.piece ≡ 8192;
  tells : TellsAlike (g.S.Source.left l.fn.source) (g.S.Source.left l.source);
  unfailing : g.S.Source.faults l.source ≡ g.S.Source.faults l.fn.source;
}

abbrev pub decreases-reads : goal.decreases-reads
decreases-reads g l = 1048577 - length l.octets.items
