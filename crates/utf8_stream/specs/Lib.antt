pub mod Unfinished
pub mod Stream
pub mod All
