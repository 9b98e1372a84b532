pub mod Rounds
pub mod Opens
pub mod Plain
pub mod Waiting
