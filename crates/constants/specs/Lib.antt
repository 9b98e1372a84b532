pub mod Lookup
pub mod Reading
pub mod Here
