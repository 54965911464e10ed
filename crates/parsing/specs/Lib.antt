pub mod Listing
pub mod Parsing
