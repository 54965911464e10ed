pub mod Fields
pub mod Lengths
