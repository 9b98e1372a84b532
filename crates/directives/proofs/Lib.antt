pub mod Macro
pub mod Lines
