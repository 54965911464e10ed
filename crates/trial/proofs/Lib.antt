pub mod AlarmWord
pub mod FirstBlocks
pub mod Parts
