pub mod TopicLemmas
pub mod PairLemmas
pub mod OrderLemmas
pub mod SameLemmas
pub mod Below
pub mod All
