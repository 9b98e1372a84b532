pub mod Going
pub mod Table
pub mod Past
pub mod Classes
pub mod Windows
