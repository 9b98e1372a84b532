pub mod Names
pub mod Striking
