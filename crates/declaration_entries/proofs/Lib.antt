pub mod Semicolon
