pub mod Rows
pub mod Bytes
pub mod Outside
pub mod Trees
pub mod Readings
pub mod Fronts
