pub mod Schedule
pub mod LinkState
pub mod Acts
pub mod MemNet
pub mod MemSteps
pub mod All
