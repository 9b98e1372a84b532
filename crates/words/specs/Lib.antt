pub mod Meaning
pub mod AtMost
pub mod Plain
pub mod Examples
