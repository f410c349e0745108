pub mod Connection
pub mod Parting
pub mod ConnectionMap
pub mod NumberSet
pub mod All
