pub mod Written
pub mod Words
pub mod Fitting
