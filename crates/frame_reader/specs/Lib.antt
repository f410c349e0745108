pub mod Middle
pub mod Header
pub mod State
pub mod Reader
pub mod Parsed
pub mod Close
pub mod Step
pub mod All
