pub mod DigitLemmas
pub mod RouteLemmas
