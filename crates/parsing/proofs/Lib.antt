pub mod Trees
pub mod Lists
pub mod Parts
pub mod Wholes
