pub mod Spelt
pub mod Stored
pub mod Gathers
