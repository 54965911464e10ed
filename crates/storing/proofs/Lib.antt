pub mod Rest
pub mod Bytes
pub mod Walk
