pub mod Parens
pub mod Within
