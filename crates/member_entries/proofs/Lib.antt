pub mod Made
pub mod Ends
