pub mod Naming
pub mod Taking
