pub mod Values
pub mod Loaded
pub mod Own
pub mod FirstPlaces
pub mod Runs
pub mod Beyond
pub mod Ran
