pub mod Branch
pub mod Lists
pub mod Picked
pub mod Ties
pub mod Truth
