pub mod Numbers
pub mod Spaces
pub mod Names
pub mod Signs
