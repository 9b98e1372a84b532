pub mod Ends
pub mod Held
pub mod Reply
pub mod Store
pub mod Noting
pub mod Marks
pub mod Widths
