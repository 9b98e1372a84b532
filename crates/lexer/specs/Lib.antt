pub mod Columns
pub mod Names
pub mod Going
pub mod Pushing
