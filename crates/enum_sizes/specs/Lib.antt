pub mod OfValues
