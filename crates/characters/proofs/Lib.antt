pub mod Hex
pub mod Constant
pub mod Refused
