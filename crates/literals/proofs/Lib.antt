pub mod Digits
pub mod Capped
