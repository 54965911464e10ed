pub mod Back
pub mod Fewest
pub mod Plain
pub mod Read
pub mod Accepted
