pub mod RoundUp
pub mod Told
pub mod Members
pub mod Sizes
