pub mod Made
pub mod Goes
pub mod TypeWords
pub mod Composites
pub mod Lists
pub mod Declaring
pub mod Plain
