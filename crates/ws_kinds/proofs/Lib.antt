pub mod TextLemmas
pub mod Facts
