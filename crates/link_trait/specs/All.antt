-- The words that proofs of this crate and of those above use, under one name.
pub use Rattle.link_trait.specs.Link.{Rose, TellsAlike}
pub use Rattle.link_trait.specs.MemSink.{MemSinkState, TakesPiece}
pub use Rattle.link_trait.specs.MemSource.{GivesPiece, MemSourceState}
pub use Rattle.link_trait.specs.Net.{Accepts, BreaksRead, BreaksWrite, CountsFault, CountsNetReadFaults, CountsNetWriteFaults, CountsNextFaults, Ends, Frees, HasNoTraffic, IsFresh, Listens, ListensAt, NetGives, NetGivesWithin, NetTakes, NetTakesWithin, NextTold, Nexts, ReadTold, Readies, Reads, Same, SameBut, SameLinks, SameNet, SameTold, SameTraffic, SameTrafficBut, Shuts, Tells, Ticks, WritableAfter, WriteTold, Writes, Wrote, is_rest, passed_after, passing}
pub use Rattle.link_trait.specs.NetState.{NetState}
pub use Rattle.link_trait.specs.Plan.{fails_next}
pub use Rattle.link_trait.specs.Sink.{AppendsFewer, AppendsFront, CountsWriteFaults, Takes, TakesWithin}
pub use Rattle.link_trait.specs.Source.{CountsReadFaults, Gives, GivesWithin}
pub use Rattle.link_trait.specs.StdSink.{WritesTo, sink_faults, sink_writer}
pub use Rattle.link_trait.specs.StdSource.{ReadsFrom, source_faults, source_reader}
