pub mod Scans
pub mod Takes
pub mod Figures
pub mod Whole
pub mod States
