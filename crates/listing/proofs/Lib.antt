pub mod Under
pub mod Carried
pub mod Rows
