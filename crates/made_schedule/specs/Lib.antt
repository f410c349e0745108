pub mod Generator
pub mod Message
pub mod Summary
pub mod Made
pub mod All
