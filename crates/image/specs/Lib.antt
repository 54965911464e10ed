pub mod State
pub mod Image
pub mod Lent
