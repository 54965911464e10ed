pub mod Runs
pub mod Ranges
