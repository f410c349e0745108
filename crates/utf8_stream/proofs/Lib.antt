pub mod FrontLemmas
pub mod StreamLemmas
pub mod Below
pub mod All
