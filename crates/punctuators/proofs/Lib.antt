pub mod Marks
pub mod Quotes
