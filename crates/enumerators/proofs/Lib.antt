pub mod Naming
pub mod Turns
