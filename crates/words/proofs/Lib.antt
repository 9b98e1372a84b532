pub mod Laws
pub mod Uses
