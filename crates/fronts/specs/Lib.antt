pub mod Fronts
pub mod Deciding
