pub mod Calls
pub mod InPlace
