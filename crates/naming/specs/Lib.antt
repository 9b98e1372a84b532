pub mod Names
pub mod Meaning
