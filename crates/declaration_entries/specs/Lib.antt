pub mod Pieces
pub mod Tokens
