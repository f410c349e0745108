pub mod Tellings
pub mod All
