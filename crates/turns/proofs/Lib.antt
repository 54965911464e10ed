pub mod Behind
pub mod Going
pub mod Answering
pub mod Figures
pub mod Blocks
