pub mod Programs
pub mod Exports
