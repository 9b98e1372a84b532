pub mod Limits
pub mod Meaning
