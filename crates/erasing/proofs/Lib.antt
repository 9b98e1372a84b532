pub mod Blanks
pub mod Names
pub mod Past
pub mod Ends
