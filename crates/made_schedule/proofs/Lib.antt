pub mod Steps
pub mod Sound
pub mod Lengths
pub mod Below
pub mod All
