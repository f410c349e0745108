pub mod Tellings
pub mod Pass
pub mod Trace
pub mod Rows
pub mod All
