pub mod Left
pub mod Counting
