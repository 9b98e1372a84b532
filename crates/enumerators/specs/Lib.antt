pub mod Under
pub mod Doing
