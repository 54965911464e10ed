pub mod Scan
pub mod Loading
pub mod Run
