pub mod RingValue
pub mod All
