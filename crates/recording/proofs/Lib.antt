pub mod Parts
pub mod Shorts
pub mod Ends
pub mod Heads
pub mod Prefixes
pub mod Moves
