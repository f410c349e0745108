pub mod Numbers
pub mod Walked
pub mod Meant
pub mod Found
pub mod Order
pub mod EchoRange
pub mod ServeRange
