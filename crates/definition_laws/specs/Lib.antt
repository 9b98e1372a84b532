pub mod Every
pub mod Enough
pub mod Progress
pub mod Inside
pub mod Left
pub mod Columns
