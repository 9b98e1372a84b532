pub mod Search
pub mod Told
pub mod Steps
pub mod Rounds
pub mod Enumerators
