pub mod Choice
pub mod Every
pub mod Sets
pub mod Sizes
pub mod Table
pub mod Words
pub mod Bits
pub mod Refusals
