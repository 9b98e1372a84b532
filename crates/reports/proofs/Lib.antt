pub mod Front
pub mod Outcomes
