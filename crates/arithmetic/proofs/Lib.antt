pub mod Limit
pub mod Half
pub mod Signs
pub mod Bitwise
pub mod Told
