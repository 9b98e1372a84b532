pub mod Ascii
pub mod Kinds
pub mod Names
pub mod Refusals
pub mod Regions
pub mod Storage
pub mod Spans
