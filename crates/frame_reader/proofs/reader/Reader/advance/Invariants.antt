use Rattle.frame_reader.proofs.Below.{[], ◌≡◌, has_ended, Tells, Keeps, burden}
use Rattle.frame_reader.proofs.reader.Reader.advance.Given as goal

abbrev pub invariant-parts : goal.invariant-parts
invariant-parts l = record {
  tells : Tells l.initial.self [] l.self;
  kept : Keeps l.initial.self l.self;
  ended : has_ended l.self ≡ has_ended l.initial.self;
}

abbrev pub decreases-parts : goal.decreases-parts
decreases-parts l = burden l.self
