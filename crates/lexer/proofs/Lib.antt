pub mod Meeting
pub mod Stored
pub mod Rounds
pub mod Entry
pub mod Pushing
