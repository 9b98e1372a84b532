pub mod Sized
pub mod Told
pub mod Gathered
mod Reading
