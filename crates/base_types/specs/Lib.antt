pub mod Basing
