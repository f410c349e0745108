pub mod OfferLemmas
pub mod HandLemmas
pub mod PassLemmas
pub mod Below
pub mod All
