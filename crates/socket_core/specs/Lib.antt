pub mod Items
pub mod Phases
pub mod Timed
pub mod Puts
pub mod Offers
pub mod All
