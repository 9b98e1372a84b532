pub mod Walk
pub mod Condition
pub mod Needed
