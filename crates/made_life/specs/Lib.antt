pub mod Sending
pub mod Life
pub mod Turn
