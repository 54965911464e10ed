pub mod Blocks
pub mod Types
pub mod Reading
