pub mod Topics
pub mod Subscriptions
pub mod Subscribers
pub mod Pairs
pub mod All
