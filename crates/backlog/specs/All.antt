-- The words that proofs of this crate and of those above use, under one name.
pub use Rattle.backlog.specs.RingValue.{RingValue, empty_ring, ringed_more, with_octets, without_first}
