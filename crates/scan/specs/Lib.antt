pub mod Where
pub mod Classes
pub mod Ends
