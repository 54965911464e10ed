pub mod Choice
pub mod Refusals
pub mod Bits
pub mod Words
pub mod Lent
