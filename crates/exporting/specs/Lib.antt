pub mod Texts
pub mod Exported
