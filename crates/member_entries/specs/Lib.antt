pub mod Pieces
pub mod Ended
