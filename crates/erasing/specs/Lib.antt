pub mod Taken
pub mod Erased
