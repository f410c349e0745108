pub mod WalkLemmas
pub mod OneLemmas
