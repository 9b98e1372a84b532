pub mod Names
pub mod Chain
