pub mod Crossing
pub mod Filling
pub mod Holding
