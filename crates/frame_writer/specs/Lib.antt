pub mod Header
pub mod Close
pub mod All
