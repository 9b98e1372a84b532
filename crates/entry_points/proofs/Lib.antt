pub mod Front
pub mod Parsing
pub mod Telling
pub mod Derived
pub mod Walked
